-- Which file a line on standard error is about.
use Rattle.std.specs.Prelude.{Option, Some, None}
use Rattle.program_ends.specs.declared.advice.Subject.{Subject}
use Rattle.program_ends.specs.declared.advice.Subject.TheVariants as subject
use Rattle.program_ends.specs.declared.diagnostic.Diagnostic.{Diagnostic}
use Rattle.program_ends.specs.declared.diagnostic.Diagnostic.TheVariants as line

abbrev pub subject_of : Diagnostic → Option Subject
subject_of (line.Open told) = Some subject.Map
subject_of line.Map = Some subject.Map
subject_of line.Script = Some subject.Script
subject_of line.Save = Some subject.File
subject_of line.Refused = Some subject.List
subject_of _ = None
