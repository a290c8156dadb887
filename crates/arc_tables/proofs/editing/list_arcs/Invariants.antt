use Rattle.kit_words.proofs.Common.{ℕ, Contains, take}
use Rattle.arc_tables.specs.Common.{stand_at, ListsMore}
use Rattle.arc_tables.proofs.editing.list_arcs.Given as goal

abbrev pub invariant-loop-i : goal.invariant-loop-i
invariant-loop-i g l = record {
  kept : ListsMore l.fn.stands.items l.stands.items;
  listed : (i : ℕ) → Contains (take l.i-index l.among) i → Contains (stand_at l.stands.items l.k) i;
}
