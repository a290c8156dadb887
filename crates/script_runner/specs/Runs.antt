-- A whole run: the lines of a script, what each means, and the answers.
use Rattle.std.specs.Prelude.{◌≡◌, ◌≢◌, ℕ, ◌+◌, ◌≤◌, ◌==◌, List, [], ◌∷◌, ◌++◌, length, map, if◌then◌else◌, codes, Option, None, Some}
use Rattle.std.specs.List.{flat_map}
use Rattle.ring_machine.specs.Common.{Document, features, Command, Show, Answer, Refused, State, step}
use Rattle.map_text.specs.Common.{text_of, Saved}
use Rattle.script_lines.specs.Common.{Says, without_return}
use Rattle.script_runner.specs.Answers.{answer_text}

-- ---- lines

-- no line feed
abbrev pub NoFeed : List ℕ → Type 0
NoFeed [] = Unit {0}
NoFeed (b ∷ bs) = (b ≢ 10) × NoFeed bs

abbrev pub NoFeeds : List (List ℕ) → Type 0
NoFeeds [] = Unit {0}
NoFeeds (l ∷ ls) = NoFeed l × NoFeeds ls

-- each with its line feed
abbrev pub with_feeds : List (List ℕ) → List ℕ
with_feeds ls = flat_map (λ l. l ++ 10 ∷ []) ls

-- the bytes are these lines, each ended by a line feed, and then bytes with none
pub record AreLines (bytes : List ℕ) (ended : List (List ℕ)) (last : List ℕ) : Type 0 where
  pub all : bytes ≡ with_feeds ended ++ last
  pub whole : NoFeeds ended
  pub open_end : NoFeed last

-- a line: its bytes, and what of them is read
pub record ScriptLine : Type 0 where
  pub bytes : List ℕ
  pub text : List ℕ

abbrev pub ended_line : List ℕ → ScriptLine
ended_line l = record { bytes = l; text = without_return l }

abbrev pub open_line : List ℕ → ScriptLine
open_line l = record { bytes = l; text = l }

-- a last line without a line feed counts where it is not empty
abbrev pub all_lines : List (List ℕ) → List ℕ → List ScriptLine
all_lines ended [] = map ended_line ended
all_lines ended (b ∷ bs) = map ended_line ended ++ open_line (b ∷ bs) ∷ []

-- ---- what a line means

pub data Meaning : Type 0 where
  Skipped : Meaning
  Asked : Command → Meaning
  Bad : Meaning

abbrev pub meaning_of : Option Command → Meaning
meaning_of None = Skipped
meaning_of (Some c) = Asked c

-- a line of at most 8192 bytes means what it says; one that says nothing, and a longer one, is bad
abbrev pub LineMeans : ScriptLine → Meaning → Type 0
LineMeans l Skipped = (length l.bytes ≤ 8192) × Says l.text None
LineMeans l (Asked c) = (length l.bytes ≤ 8192) × Says l.text (Some c)
LineMeans l Bad = length l.bytes ≤ 8192 → (said : Option Command) → ¬ Says l.text said

abbrev pub AllMean : List ScriptLine → List Meaning → Type 0
AllMean [] [] = Unit {0}
AllMean [] (m ∷ ms) = ⊥
AllMean (l ∷ ls) [] = ⊥
AllMean (l ∷ ls) (m ∷ ms) = LineMeans l m × AllMean ls ms

-- ---- answers of the machine, which keeps at most depth changes

abbrev pub reply_text : ℕ → State → Meaning → List ℕ
reply_text depth st Skipped = []
reply_text depth st (Asked c) = answer_text (step depth st c).0 ++ codes "\n"
reply_text depth st Bad = codes "bad line\n"

abbrev pub state_after_line : ℕ → State → Meaning → State
state_after_line depth st Skipped = st
state_after_line depth st (Asked c) = (step depth st c).1
state_after_line depth st Bad = st

-- an answer that is a refusal counts one
abbrev pub refusals : Answer → ℕ
refusals (Refused r) = 1
refusals _ = 0

abbrev pub answered_by : Meaning → ℕ
answered_by Skipped = 0
answered_by (Asked c) = 1
answered_by Bad = 1

abbrev pub refused_by : ℕ → State → Meaning → ℕ
refused_by depth st Skipped = 0
refused_by depth st (Asked c) = refusals (step depth st c).0
refused_by depth st Bad = 1

-- the answers in order
abbrev pub replies : ℕ → State → List Meaning → List ℕ
replies depth st [] = []
replies depth st (m ∷ ms) = reply_text depth st m ++ replies depth (state_after_line depth st m) ms

abbrev pub state_after_all : ℕ → State → List Meaning → State
state_after_all depth st [] = st
state_after_all depth st (m ∷ ms) = state_after_all depth (state_after_line depth st m) ms

abbrev pub answered : List Meaning → ℕ
answered [] = 0
answered (m ∷ ms) = answered_by m + answered ms

abbrev pub refused : ℕ → State → List Meaning → ℕ
refused depth st [] = 0
refused depth st (m ∷ ms) = refused_by depth st m + refused depth (state_after_line depth st m) ms

-- where a line asks to see the document, the text of it means it, and has each border once
abbrev pub ShowsSaved : State → Meaning → Type 0
ShowsSaved st m = m ≡ Asked Show → Saved (text_of st.doc) st.doc

abbrev pub AllShowSaved : ℕ → State → List Meaning → Type 0
AllShowSaved depth st [] = Unit {0}
AllShowSaved depth st (m ∷ ms) = ShowsSaved st m × AllShowSaved depth (state_after_line depth st m) ms

-- opened: the next number is that of the features, and there is no history
abbrev pub opened_state : Document → State
opened_state d = record { doc = d; next = length (features d); past = [] }

-- the document after lines of these meanings, of the one that was opened
abbrev pub document_after : ℕ → Document → List Meaning → Document
document_after depth d meanings = (state_after_all depth (opened_state d) meanings).doc
