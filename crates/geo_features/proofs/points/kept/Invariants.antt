use Rattle.kit_words.proofs.Common.{◌≡◌, ◌++◌, filter, map, not}
use Rattle.json_spans.specs.Common.{members, members_left, node}
use Rattle.topo_outline.specs.Common.{view_kept}
use Rattle.geo_features.specs.Names.{is_one_of}
use Rattle.geo_features.specs.Points.{known_of_point, member_of_pair}
use Rattle.geo_features.proofs.points.kept.Given as goal

abbrev pub invariant-loop-member : goal.invariant-loop-member
invariant-loop-member g l = map view_kept l.found.items ++ filter (λ m. not (is_one_of known_of_point m.name)) (map member_of_pair (members_left l.member-iterator)) ≡ filter (λ m. not (is_one_of known_of_point m.name)) (map member_of_pair (members (node l.fn.object)))
