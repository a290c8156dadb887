use Rattle.kit_words.proofs.Common.{ℕ, Contains, take}
use Rattle.arc_tables.specs.Common.{stand_at, ListsMore}
use Rattle.arc_tables.proofs.standing.note.Given as goal

abbrev pub invariant-loop-k : goal.invariant-loop-k
invariant-loop-k g l = record {
  kept : ListsMore l.fn.stands.items l.stands.items;
  noted : (k : ℕ) → Contains (take l.k-index l.keys) k → Contains (stand_at l.stands.items k) l.n;
}
