use Rattle.kit_words.proofs.Common.{◌≡◌, ◌++◌, drop, filter, map, not}
use Rattle.topo_outline.specs.Common.{view_kept}
use Rattle.geo_features.specs.Names.{is_geometry}
use Rattle.geo_features.proofs.members.without_geometry.Given as goal

abbrev pub invariant-loop-member : goal.invariant-loop-member
invariant-loop-member g l = map view_kept l.own.items ++ filter (λ m. not (is_geometry m.name)) (map view_kept (drop l.member-index l.members)) ≡ filter (λ m. not (is_geometry m.name)) (map view_kept l.fn.members)
