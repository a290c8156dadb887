use Rattle.kit_words.proofs.Common.{take}
use Rattle.local_planarity.specs.Common.{tried}
use Rattle.local_planarity.proofs.Counts.{IsFound}
use Rattle.local_planarity.proofs.pairs.first_staying.Given as goal

-- the least of the pairs so far, after as many tests
abbrev pub invariant-loop-t : goal.invariant-loop-t
invariant-loop-t l =
    IsFound l.s (tried l.leaving l.s (take l.t-index l.others)) l.fn.before l.initial.tests l.found l.tests
