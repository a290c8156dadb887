-- The lines on standard error that say why a program ends.
use Rattle.std.specs.Prelude.{◌≡◌, ℕ, List, Option, Some, None, codes, ◌++◌}
use Rattle.std.specs.declared.io.ErrorKind.{ErrorKind}
use Rattle.std.specs.declared.io.ErrorKind.TheVariants as kind
use Rattle.topo_outline.specs.declared.fault.OpenFault.{OpenFault}
use Rattle.program_ends.specs.declared.diagnostic.Diagnostic.{Diagnostic}
use Rattle.program_ends.specs.declared.diagnostic.Diagnostic.TheVariants.{Open, Findings, TooLarge, Unmended, Unparted, Map, Script, Write, Save, Refused, NoSeed, NoMemory, NotUtf8, OneFile, NoFeature, LinesRefused, CutOff}
use Rattle.program_ends.specs.declared.stop.Stop.{Stop}
use Rattle.program_ends.specs.declared.stop.Stop.TheVariants as stop

-- the line that tells why a map was not opened
abbrev pub IsOpen : OpenFault → Diagnostic → Type 0
IsOpen f (Open told) = told.now ≡ f
IsOpen f line = ⊥

-- what is reported where no work began; what clap says of the words is no line of the program's
abbrev pub stop_line : Stop → Option Diagnostic
stop_line (stop.Words error) = None
stop_line stop.NotUtf8 = Some NotUtf8
stop_line (stop.OneFile first second) = Some (OneFile first second)
stop_line stop.Map = Some Map
stop_line stop.Script = Some Script
stop_line stop.NoSeed = Some NoSeed
stop_line stop.NoMemory = Some NoMemory

-- what is reported where a file could not be written, by the kind of the error: a failed allocation, or
-- else the line of the file
abbrev pub unwritten_line : ErrorKind → Diagnostic → Diagnostic
unwritten_line kind.OutOfMemory line = NoMemory
unwritten_line k line = line

-- what is reported where FILE could not be written
abbrev pub unsaved_line : ErrorKind → Diagnostic
unsaved_line k = unwritten_line k Save

-- what is reported where FILE2 could not be written
abbrev pub unlisted_line : ErrorKind → Diagnostic
unlisted_line k = unwritten_line k Refused

-- what is reported where standard output could not be written
abbrev pub unprinted_line : ErrorKind → Diagnostic
unprinted_line k = unwritten_line k Write

-- the text of a line; of one with a place, a limit or a count nothing is said
abbrev pub line_text : Diagnostic → Option (List ℕ)
line_text (Open told) = None
line_text (TooLarge what) = None
line_text (Unmended s t) = None
line_text (Unparted feature polygon) = None
line_text (LinesRefused count) = None
line_text Findings = Some (codes "open: too many findings")
line_text Map = Some (codes "map fault")
line_text Script = Some (codes "script fault")
line_text Write = Some (codes "write fault")
line_text Save = Some (codes "save fault")
line_text Refused = Some (codes "refused fault")
line_text NoSeed = Some (codes "no random seed")
line_text NoMemory = Some (codes "out of memory")
line_text NotUtf8 = Some (codes "an argument is not UTF-8")
line_text (OneFile first second) = Some (first.now ++ (codes " and " ++ (second.now ++ codes " name the same file")))
line_text (NoFeature reason) = Some (codes "no feature: " ++ reason.now)
line_text CutOff = Some (codes "not saved: the last line of the script has no line feed")
