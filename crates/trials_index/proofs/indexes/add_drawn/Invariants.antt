use Rattle.std.proofs.Common.{◌≡◌}
use Rattle.trials_index.proofs.indexes.add_drawn.Given as goal

-- both hold the same segments
abbrev pub invariant-loop-k : goal.invariant-loop-k
invariant-loop-k g l = g.I.SegIndex.held l.list ≡ g.J.SegIndex.held l.tree
