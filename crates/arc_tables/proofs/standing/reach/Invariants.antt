use Rattle.kit_words.proofs.Common.{◌≡◌, ℕ, ◌+◌, ◌-◌, vec_len}
use Rattle.arc_tables.specs.Common.{stand_at}
use Rattle.arc_tables.proofs.standing.reach.Given as goal

abbrev pub invariant-loop-heap : goal.invariant-loop-heap
invariant-loop-heap g l = (j : ℕ) → stand_at l.stands.items j ≡ stand_at l.fn.stands.items j

abbrev pub decreases-loop-heap : goal.decreases-loop-heap
decreases-loop-heap g l = l.k + 1 - vec_len l.stands
