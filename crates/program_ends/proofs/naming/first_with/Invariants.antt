use Rattle.kit_words.proofs.Common.{◌≡◌, drop}
use Rattle.program_ends.specs.Clashes.{first_with}
use Rattle.program_ends.proofs.naming.first_with.Given as goal

-- no argument so far clashes
abbrev pub invariant-loop-other : goal.invariant-loop-other
invariant-loop-other l = first_with l.file (drop l.other-index l.rest) ≡ first_with l.file l.rest
