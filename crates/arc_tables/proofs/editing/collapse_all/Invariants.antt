use Rattle.kit_words.proofs.Common.{ℕ, take}
use Rattle.slab.specs.Slab.{get}
use Rattle.arc_tables.specs.Common.{CollapsesAmong, path_in, SameUsers}
use Rattle.arc_tables.proofs.editing.collapse_all.Given as goal

abbrev pub invariant-loop-i : goal.invariant-loop-i
invariant-loop-i g l = record {
  paths : (j : ℕ) → CollapsesAmong (take l.i-index l.among) j l.p l.b (path_in (get l.fn.arcs j)) (path_in (get l.arcs j));
  users : SameUsers l.fn.arcs l.arcs;
}
