use Rattle.edit_program.specs.Listing.{Awaits}
use Rattle.edit_program.proofs.refused_lines.RefusedLines.take_script.Given as goal

abbrev pub invariant-loop-part : goal.invariant-loop-part
invariant-loop-part l = Awaits l.initial.self l.self
