-- What a command makes of a map, whatever its history.
use Rattle.std.specs.Prelude.{ℕ, ℤ, ◌≡◌, ◌+◌, ◌==◌, ◌⊎◌, not, if◌then◌else◌, Bool, true, false, List, ◌∷◌, take, MatchOption, MatchResult, Result, Ok, Err}
use Rattle.ring_machine.specs.Common.{Document, Command, Thin, Refusal, Refused, State, step, IsThinnedPart}
use Rattle.edit_records.specs.Common.{grown}
use Rattle.arc_store.specs.Common.{IsSameMap, IsRecorded}
use Rattle.arc_store.specs.State.{State as MapState}
use Rattle.arc_store.specs.declared.fault.EditFault.{EditFault}
use Rattle.edit_vertex.specs.Common.{IsThinRecorded}
use Rattle.undo_ring.specs.Answers.{answer_of, refusal_of}
use Rattle.undo_ring.specs.declared.answer.Answer.{Answer}
use Rattle.undo_ring.specs.declared.answer.Answer.TheVariants as told

-- a map with a history, as a state of the machine
abbrev pub with_past : MapState → List Document → State
with_past m past = record { doc = m.doc; next = m.next; past = past }

-- a thinning is a change where it left something out, any other edit always, and a query never
abbrev pub is_change : {A : Type 0} → Answer A → Bool
is_change told.Done = true
is_change (told.Thinned n) = not (n == 0)
is_change (told.Made n) = true
is_change (told.Area z) = false
is_change (told.At at) = false
is_change (told.Neighbours ns) = false

-- the history after this answer, where the document was d
abbrev pub past_after : {A : Type 0} → Answer A → ℕ → Document → List Document → List Document
past_after answer depth d past = if is_change answer then take depth (d ∷ past) else past

-- the next number stays, and so do the places of all numbers
pub record StaysPlaced (old new : MapState) : Type 0 where
  pub next : new.next ≡ old.next
  pub places : new.places ≡ old.places

-- a new number has its place directly after a feature
pub record IsGrown (old new : MapState) : Type 0 where
  pub after : ℕ
  pub next : new.next ≡ old.next + 1
  pub places : new.places ≡ grown after old.next old.places

-- a change is recorded; what is none leaves the map as it was
abbrev pub KeepsMap : Bool → MapState → MapState → Type 0
KeepsMap true old new = IsRecorded old new × (StaysPlaced old new ⊎ IsGrown old new)
KeepsMap false old new = IsSameMap old new

-- the command was accepted: answer, document and next number are the machine's
pub record AcceptsOn {A : Type 0} (old new : MapState) (c : Command) (answer : Answer A) : Type 0 where
  pub steps : (depth : ℕ) (past : List Document)
      → (answer_of answer, with_past new (past_after answer depth old.doc past))
      ≡ step depth (with_past old past) c
  pub cells : new.cells ≡ old.cells
  pub kept : KeepsMap (is_change answer) old new

-- the machine refuses the command, and nothing was changed but the count of tests
pub record RefusesOn (old new : MapState) (c : Command) (r : Refusal) : Type 0 where
  pub steps : (depth : ℕ) (past : List Document)
      → (Refused r, with_past old past) ≡ step depth (with_past old past) c
  pub same : IsSameMap old new

-- memory was refused in the middle of a thinning
pub record StopsOn (old new : MapState) (c : Command) : Type 0 where
  pub bound : ℤ
  pub thins : c ≡ Thin bound
  pub part : IsThinnedPart bound old.doc new.doc
  pub recorded : IsThinRecorded old new
  pub stays : StaysPlaced old new
  pub cells : new.cells ≡ old.cells

-- what a fault leaves of a map
abbrev pub FailsOn : EditFault → MapState → MapState → Command → Type 0
FailsOn fault old new c =
    MatchOption (refusal_of fault) (IsSameMap old new ⊎ StopsOn old new c) (RefusesOn old new c)

-- what a command makes of a map, and how it is answered
abbrev pub AnswersMap : {A : Type 0} → MapState → MapState → Command → Result (Answer A) EditFault
    → Type 0
AnswersMap old new c result =
    MatchResult result (AcceptsOn old new c) (λ fault. FailsOn fault old new c)

abbrev pub done_of : {A : Type 0} → Result (Unit {0}) EditFault → Result (Answer A) EditFault
done_of (Ok u) = Ok told.Done
done_of (Err fault) = Err fault

abbrev pub made_of : {A : Type 0} → Result ℕ EditFault → Result (Answer A) EditFault
made_of (Ok n) = Ok (told.Made n)
made_of (Err fault) = Err fault
