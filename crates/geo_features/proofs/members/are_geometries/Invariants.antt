use Rattle.kit_words.proofs.Common.{◌≡◌, drop, list_all, map}
use Rattle.topo_outline.specs.Common.{view_kept}
use Rattle.geo_features.specs.Names.{is_geometry}
use Rattle.geo_features.proofs.members.are_geometries.Given as goal

abbrev pub invariant-loop-member : goal.invariant-loop-member
invariant-loop-member l = list_all (λ m. is_geometry m.name) (map view_kept (drop l.member-index l.members)) ≡ list_all (λ m. is_geometry m.name) (map view_kept l.fn.members)
