-- What ends a program before its work begins, and the status that it ends with.
use Rattle.std.specs.Prelude.{ℕ}
use Rattle.clap.specs.Values.{kind_of}
use Rattle.clap.specs.declared.error.Error.{Error}
use Rattle.clap.specs.declared.error.kind.ErrorKind.{ErrorKind}
use Rattle.clap.specs.declared.error.kind.ErrorKind.TheVariants.{DisplayHelp, DisplayVersion, OutOfMemory}
use Rattle.program_ends.specs.declared.stop.Stop.{Stop}
use Rattle.program_ends.specs.declared.stop.Stop.TheVariants.{Words, NotUtf8, OneFile, Map, Script, NoSeed, NoMemory}

abbrev stop_by : ErrorKind → Error → Stop
stop_by OutOfMemory error = NoMemory
stop_by kind error = Words error

-- words with this error: a failed allocation, or else the words themselves
abbrev pub words_stop : Error → Stop
words_stop error = stop_by (kind_of error) error

abbrev words_status : ErrorKind → ℕ
words_status DisplayHelp = 0
words_status DisplayVersion = 0
words_status kind = 64

-- 0 where the words ask for help, 64 where they do not parse, are no UTF-8 or name one file twice, and
-- 3 where a file can't be read, or there is no seed, or an allocation failed
abbrev pub stop_status : Stop → ℕ
stop_status (Words error) = words_status (kind_of error)
stop_status NotUtf8 = 64
stop_status (OneFile first second) = 64
stop_status Map = 3
stop_status Script = 3
stop_status NoSeed = 3
stop_status NoMemory = 3

-- two arguments name one file
abbrev pub IsOneFile : Stop → Type 0
IsOneFile (OneFile first second) = Unit {0}
IsOneFile stop = ⊥
