use Rattle.kit_words.proofs.Common.{◌≡◌, drop}
use Rattle.program_ends.specs.Clashes.{first_clash}
use Rattle.program_ends.proofs.naming.first_clash.Given as goal

-- no argument so far clashes with one after it
abbrev pub invariant-loop-at : goal.invariant-loop-at
invariant-loop-at l = first_clash (drop l.at l.files) ≡ first_clash l.files
