-- The list of the refused lines of a script: which lines have a row, and what stands in it.
use Rattle.std.specs.Prelude.{◌≡◌, ℕ, ◌-◌, nat_lt, ◌||◌, ◌&&◌, not, List, [], ◌∷◌, ◌++◌, take, length, false, if◌then◌else◌}
use Rattle.std.specs.Prelude.{Option, None, ◌⊎◌, codes, decimal}
use Rattle.grid_geometry.specs.Common.{position_text}
use Rattle.ring_machine.specs.Common.{Command}
use Rattle.script_lines.specs.Common.{Says, without_return}
use Rattle.edit_program.specs.declared.reasons.Reason.{Reason}
use Rattle.edit_program.specs.declared.reasons.Reason.TheVariants as reason
use Rattle.edit_program.specs.declared.why.Why.{Why}
use Rattle.edit_program.specs.declared.why.Why.TheVariants.{Bad, Position, Segment, Feature, Unsaid}
use Rattle.edit_program.specs.declared.script_line.ScriptLine.{ScriptLine}
use Rattle.edit_program.specs.declared.refused_lines.RefusedLines.{RefusedLines}

-- ---- lines

-- the line with these bytes too, or so many of them as there is room for
pub record TakesMore (old : ScriptLine) (more : List ℕ) (new : ScriptLine) : Type 0 where
  pub number : new.number ≡ old.number
  pub bytes : new.bytes.items ≡ old.bytes.items ++ take (8192 - length old.bytes.items) more
  pub ended : new.is_ended ≡ old.is_ended
  pub over : new.is_over ≡ (old.is_over || nat_lt (8192 - length old.bytes.items) (length more))

-- what of a line is read: its bytes without the carriage return before its line feed; of one that was cut
-- all that is kept
abbrev pub listed_text : ScriptLine → List ℕ
listed_text line = if (line.is_ended && not line.is_over) then without_return line.bytes.items else line.bytes.items

-- an empty line, or a comment, which has no answer
abbrev pub IsSkipped : ScriptLine → Type 0
IsSkipped line = (line.is_over ≡ false) × Says (listed_text line) None

-- a line that says nothing, or is too long
abbrev pub IsBad : ScriptLine → Type 0
IsBad line = line.is_over ≡ false → (said : Option Command) → ¬ Says (listed_text line) said

-- ---- rows

abbrev pub reason_text : Reason → List ℕ
reason_text reason.TooLong = codes "too long"
reason_text reason.NotUtf8 = codes "not UTF-8"
reason_text reason.SpaceAtStart = codes "space at the start"
reason_text reason.UnknownWord = codes "unknown word"
reason_text reason.TwoSpaces = codes "two spaces"
reason_text reason.SpaceAtEnd = codes "space at the end"
reason_text reason.NotWhole = codes "not a whole number"
reason_text reason.OutOfRange = codes "number out of range"
reason_text reason.NotString = codes "not a JSON string"
reason_text reason.TooFew = codes "too few arguments"
reason_text reason.TooMany = codes "too many arguments"

abbrev pub why_text : Why → List ℕ
why_text (Bad reason) = reason_text reason
why_text (Position at) = position_text at
why_text (Segment a b) = position_text a ++ 32 ∷ position_text b
why_text (Feature number) = decimal number
why_text Unsaid = []

-- no reason
abbrev pub IsNoReason : Why → Type 0
IsNoReason (Bad reason) = ⊥
IsNoReason why = Unit {0}

-- a reason is reported of a bad line, and of no other one
abbrev pub TellsWhy : ScriptLine → Why → Type 0
TellsWhy line (Bad reason) = IsBad line
TellsWhy line why = ¬ IsBad line

-- the number of the line, its answer, the line, and what is reported of it, with a tab between two of
-- them
abbrev pub row_text : ScriptLine → List ℕ → Why → List ℕ
row_text line answer why =
    decimal line.number ++ (9 ∷ (answer ++ (9 ∷ (listed_text line ++ (9 ∷ (why_text why ++ 10 ∷ []))))))

-- the list with the row of this line
abbrev pub AddsRow : ScriptLine → List ℕ → List ℕ → List ℕ → Type 0
AddsRow line answer old new = (why : Why) × (new ≡ old ++ row_text line answer why) × TellsWhy line why

-- ---- the list

-- the lines whose answer has not come
abbrev pub waiting_of : RefusedLines → List ScriptLine
waiting_of lines = lines.waiting.items

-- the rows of the lines that were refused
abbrev pub rows_of : RefusedLines → List ℕ
rows_of lines = lines.rows.items

-- perhaps more lines wait, and no row has come
pub record Awaits (old new : RefusedLines) : Type 0 where
  pub more : List ScriptLine
  pub waits : waiting_of new ≡ waiting_of old ++ more
  pub rows : rows_of new ≡ rows_of old

-- the open line waits too, but where it has no answer, and the next one is open
pub record EndsLine (old new : RefusedLines) : Type 0 where
  pub waits : (IsSkipped old.open × (waiting_of new ≡ waiting_of old))
      ⊎ ((¬ IsSkipped old.open) × (waiting_of new ≡ waiting_of old ++ old.open ∷ []))
  pub rows : rows_of new ≡ rows_of old
  pub empty : new.open.bytes.items ≡ []

-- no row, or the row of this line
abbrev pub IsRow : ScriptLine → List ℕ → Type 0
IsRow line row = (row ≡ []) ⊎ ((answer : List ℕ) × AddsRow line answer [] row)

-- the text has perhaps the row of this line, and then the others
pub record HasRow (line : ScriptLine) (text : List ℕ) (AreOthers : List ℕ → Type 0) : Type 0 where
  pub row : List ℕ
  pub others : List ℕ
  pub all : text ≡ row ++ others
  pub is_row : IsRow line row
  pub are_others : AreOthers others

-- the text has rows of these lines in order, at most one of each
abbrev pub AreRows : List ScriptLine → List ℕ → Type 0
AreRows [] text = text ≡ []
AreRows (line ∷ lines) text = HasRow line text (AreRows lines)

-- the first lines that waited have their answers, and of some of them a row has come
pub record Lists (old new : RefusedLines) : Type 0 where
  pub answered : List ScriptLine
  pub more : List ℕ
  pub waited : waiting_of old ≡ answered ++ waiting_of new
  pub listed : rows_of new ≡ rows_of old ++ more
  pub rows : AreRows answered more

-- the first line that waited has its answer
pub record ListsFirst (old new : RefusedLines) : Type 0 where
  pub line : ScriptLine
  pub row : List ℕ
  pub waited : waiting_of old ≡ line ∷ waiting_of new
  pub listed : rows_of new ≡ rows_of old ++ row
  pub is_row : IsRow line row
