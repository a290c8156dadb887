use Rattle.kit_words.proofs.Common.{◌≡◌, ◌+◌, ◌≤◌, length, min, take, false, list_any}
use Rattle.grid_geometry.specs.Conflict as geometry
use Rattle.local_planarity.specs.Common.{tried}
use Rattle.local_planarity.proofs.Counts.{greatest}
use Rattle.local_planarity.proofs.pairs.conflicts_with.Given as goal

-- none so far, after as many tests
abbrev pub invariant-loop-t : goal.invariant-loop-t
invariant-loop-t l = record {
  none : list_any (geometry.conflict l.s) (tried l.leaving l.s (take l.t-index l.others)) ≡ false;
  few : l.tests ≤ l.initial.tests + length (tried l.leaving l.s (take l.t-index l.others));
  counted : min (l.initial.tests + length (tried l.leaving l.s (take l.t-index l.others))) greatest ≤ l.tests;
}
