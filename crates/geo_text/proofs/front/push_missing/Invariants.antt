use Rattle.kit_words.proofs.Common.{◌≡◌, ◌++◌, drop, map}
use Rattle.topo_outline.specs.Common.{view_head, view_kept}
use Rattle.geo_text.specs.Layer.{missing_members}
use Rattle.geo_text.proofs.front.push_missing.Given as goal

abbrev pub invariant-loop-member : goal.invariant-loop-member
invariant-loop-member g l = map view_kept l.found.items ++ missing_members (view_head l.head) (map view_kept (drop l.member-index l.of_topology)) ≡ map view_kept l.fn.found.items ++ missing_members (view_head l.fn.head) (map view_kept l.fn.of_topology)
