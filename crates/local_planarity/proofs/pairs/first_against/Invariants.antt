use Rattle.kit_words.proofs.Common.{◌≡◌, ◌+◌, ◌≤◌, min, take}
use Rattle.local_planarity.specs.Common.{first_against}
use Rattle.local_planarity.proofs.Counts.{greatest}
use Rattle.local_planarity.proofs.pairs.first_against.Given as goal

-- the least of the pairs so far, after as many tests
abbrev pub invariant-loop-t : goal.invariant-loop-t
invariant-loop-t l = record {
  first : l.found ≡ first_against l.s (take l.t-index l.others) l.fn.before;
  few : l.tests ≤ l.initial.tests + l.t-index;
  counted : min (l.initial.tests + l.t-index) greatest ≤ l.tests;
}
