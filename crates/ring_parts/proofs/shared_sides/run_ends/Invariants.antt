use Rattle.kit_words.proofs.Common.{◌≡◌, ◌++◌, drop}
use Rattle.ring_parts.specs.Common.{is_shared, run_ends}
use Rattle.ring_parts.proofs.shared_sides.run_ends.Given as goal

-- the ends so far and those of the edges that are left are all
abbrev pub invariant-loop-edge : goal.invariant-loop-edge
invariant-loop-edge g l = l.ends.items ++ run_ends (is_shared l.shared.first.now l.shared.second.now) (drop l.edge-index l.edges) ≡ run_ends (is_shared l.shared.first.now l.shared.second.now) l.edges
