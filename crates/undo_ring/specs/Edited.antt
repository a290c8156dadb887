-- An editor as its callers see it, and what its calls make of it.
use Rattle.std.specs.Prelude.{ℕ, ℤ, ◌≡◌, ◌≢◌, ◌⊎◌, List, [], None, MatchOption}
use Rattle.ring_machine.specs.Common.{Document, Command, Move, Insert, Remove, Thin, Undo, Refusal, Done, Refused}
use Rattle.ring_machine.specs.Common.{State, step, changed, IsThinnedPart}
use Rattle.ring_machine.specs.Command as machine
use Rattle.arc_store.specs.State.{State as MapState}
use Rattle.arc_store.specs.declared.fault.EditFault.{EditFault}
use Rattle.undo_ring.specs.Answers.{answer_of, refusal_of}
use Rattle.undo_ring.specs.declared.answer.Answer.{Answer}
use Rattle.undo_ring.specs.declared.editor.UndoFault.{UndoFault}
use Rattle.undo_ring.specs.declared.editor.UndoFault.TheVariants.{NothingToUndo, OutOfMemory}

-- the map, the documents from before its newest changes, the newest one first, and how many changes
-- are kept at most
pub record Edited : Type 0 where
  pub map : MapState
  pub past : List Document
  pub depth : ℕ

-- as a state of the machine
abbrev pub machine_of : Edited → State
machine_of e = record { doc = e.map.doc; next = e.map.next; past = e.past }

-- a map with no history
abbrev pub with_no_history : MapState → ℕ → Edited
with_no_history m depth = record { map = record m { last = None }; past = []; depth = depth }

-- the command moves, inserts or removes a vertex, or thins
abbrev pub EditsVertices : Command → Type 0
EditsVertices (Move p q) = Unit {0}
EditsVertices (Insert a b q) = Unit {0}
EditsVertices (Remove p) = Unit {0}
EditsVertices (Thin t) = Unit {0}
EditsVertices _ = ⊥

-- what no call changes: how many changes are kept, and the frame of the cells of the index
pub record StaysMade (old new : Edited) : Type 0 where
  pub depth : new.depth ≡ old.depth
  pub cells : new.map.cells ≡ old.map.cells

-- nothing was changed but the count of tests
abbrev pub IsSameButTests : Edited → Edited → Type 0
IsSameButTests old new = new ≡ record old { map = record old.map { tests = new.map.tests } }

-- the command was accepted: its answer, and what is left, are the machine's
pub record Applies {A : Type 0} (old new : Edited) (c : Command) (answer : Answer A) : Type 0 where
  pub steps : (answer_of answer, machine_of new) ≡ step old.depth (machine_of old) c
  pub stays : StaysMade old new

-- the machine refuses the command, and nothing was changed
pub record Refuses (old new : Edited) (c : Command) (r : Refusal) : Type 0 where
  pub steps : (Refused r, machine_of old) ≡ step old.depth (machine_of old) c
  pub same : IsSameButTests old new

-- memory was refused, and nothing was changed
abbrev pub LacksMemory : Edited → Edited → Type 0
LacksMemory old new = IsSameButTests old new

-- memory was refused in the middle of a thinning: what was left out so far is one change
pub record IsCutShort (old new : Edited) (c : Command) : Type 0 where
  pub bound : ℤ
  pub thins : c ≡ Thin bound
  pub part : IsThinnedPart bound old.map.doc new.map.doc
  pub other : new.map.doc ≢ old.map.doc
  pub change : machine_of new ≡ changed old.depth (machine_of old) new.map.doc
  pub stays : StaysMade old new

-- what a fault leaves: a refusal, or else allocation failure
abbrev pub CommandFails : EditFault → Edited → Edited → Command → Type 0
CommandFails fault old new c =
    MatchOption (refusal_of fault)
    (LacksMemory old new ⊎ IsCutShort old new c)
    (Refuses old new c)

-- the newest change was taken back, and no two segments were tested
pub record IsUndone (old new : Edited) : Type 0 where
  pub steps : (Done, machine_of new) ≡ step old.depth (machine_of old) Undo
  pub untested : new.map.tests ≡ 0
  pub stays : StaysMade old new

-- nothing was taken back: no change is kept, or memory was refused
abbrev pub StaysDone : UndoFault → Edited → Edited → Type 0
StaysDone NothingToUndo old new = Refuses old new Undo machine.NothingToUndo
StaysDone OutOfMemory old new = LacksMemory old new
