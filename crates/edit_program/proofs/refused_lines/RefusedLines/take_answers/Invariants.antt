use Rattle.edit_program.specs.Listing.{Lists}
use Rattle.edit_program.proofs.refused_lines.RefusedLines.take_answers.Given as goal

abbrev pub invariant-loop-byte : goal.invariant-loop-byte
invariant-loop-byte l = Lists l.initial.self l.self
