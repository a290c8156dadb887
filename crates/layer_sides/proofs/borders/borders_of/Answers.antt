use Rattle.kit_words.proofs.Common.{subst}
use Rattle.ring_parts.specs.Common.{polygons_seen}
use Rattle.layer_sides.specs.Common.{borders_seen}
use Rattle.layer_sides.specs.Standing.{AreGrouped}
use Rattle.layer_sides.proofs.Grouping.{borders_are}
use Rattle.layer_sides.proofs.borders.borders_of.Goals as goal

pub returns-clause-borders : goal.returns-clause-borders
returns-clause-borders g c =
    let found = borders_seen c.in_ok-borders.borders.items in
    borders_are (polygons_seen c.args.polygons.now) c.in_ok-odd.odd.items found c.requires c.in_ok-odd.ensures.ascending c.in_ok-odd.ensures.odd
    (subst (λ z. AreGrouped z found) c.as_slice.ensures.value c.in_ok-borders.ensures.grouped)
