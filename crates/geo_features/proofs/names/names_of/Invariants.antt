use Rattle.kit_words.proofs.Common.{contains_text, map, take}
use Rattle.topo_outline.specs.Common.{view_kept}
use Rattle.geo_features.specs.Names.{HasNames}
use Rattle.geo_features.proofs.names.names_of.Given as goal

abbrev pub invariant-loop-member : goal.invariant-loop-member
invariant-loop-member g l = HasNames (contains_text l.names) (map view_kept (take l.member-index l.members))
