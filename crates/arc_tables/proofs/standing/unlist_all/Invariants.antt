use Rattle.kit_words.proofs.Common.{ℕ, ◌≢◌, Contains}
use Rattle.arc_tables.specs.Common.{stand_at}
use Rattle.arc_tables.proofs.standing.unlist_all.Given as goal

abbrev pub invariant-loop-k : goal.invariant-loop-k
invariant-loop-k g l = (j m : ℕ) → m ≢ l.i → Contains (stand_at l.fn.stands.items j) m → Contains (stand_at l.stands.items j) m
