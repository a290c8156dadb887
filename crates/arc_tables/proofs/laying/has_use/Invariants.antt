use Rattle.kit_words.proofs.Common.{◌≡◌, false, take}
use Rattle.arc_tables.specs.Common.{uses_arc}
use Rattle.arc_tables.proofs.laying.has_use.Given as goal

-- no use so far is of the arc
abbrev pub invariant-loop-u : goal.invariant-loop-u
invariant-loop-u l = record { none : uses_arc l.i (take l.u-index l.uses) ≡ false }
