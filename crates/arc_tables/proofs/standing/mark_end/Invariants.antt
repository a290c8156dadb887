use Rattle.kit_words.proofs.Common.{◌≡◌, ℕ, ◌+◌, ◌-◌, vec_len, get_or, false}
use Rattle.arc_tables.proofs.standing.mark_end.Given as goal

abbrev pub invariant-loop-ends : goal.invariant-loop-ends
invariant-loop-ends g l = (j : ℕ) → get_or l.ends.items j false ≡ get_or l.fn.ends.items j false

abbrev pub decreases-loop-ends : goal.decreases-loop-ends
decreases-loop-ends g l = l.k + 1 - vec_len l.ends
