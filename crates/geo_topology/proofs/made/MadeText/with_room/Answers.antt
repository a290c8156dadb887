use Rattle.kit_words.proofs.Common.{ap, map}
use Rattle.geo_topology.specs.Views.{view_part}
use Rattle.geo_topology.proofs.Texts.{nothing_made}
use Rattle.geo_topology.proofs.made.MadeText.with_room.Goals as goal

pub returns : goal.returns
returns g c = nothing_made _ c.in_ok-text.ensures.items (ap (map view_part) c.new.ensures.items)
