-- A command that edits vertices leaves every position on its side of every ring, whatever its answer.
use Rattle.kit_words.proofs.Common.{sym, ap, subst, [], Option, None, Some, ◌⊎◌, inl, inr, Result, Ok, Err, MatchOption}
use Rattle.ring_machine.specs.Common.{Proper, KeepsSides, State}
use Rattle.ring_machine.specs.Command.{Command, Refusal, Answer as Answered}
use Rattle.arc_store.specs.State.{State as MapState}
use Rattle.arc_store.specs.declared.fault.EditFault.{EditFault}
use Rattle.edit_vertex.proofs.Common.{same_keeps, part_keeps}
use Rattle.undo_ring.specs.Common.{refusal_of, with_past, StopsOn, RefusesOn, AnswersMap, EditsVertices, Answer}
use Rattle.arc_store.specs.Common.{IsSameMap}
use Rattle.undo_ring.proofs.StepSides.{step_keeps}

module _ (old new : MapState) (c : Command) (proper : Proper old.doc) where
  same_map_keeps : IsSameMap old new → KeepsSides old.doc new.doc
  same_map_keeps same =
      subst (KeepsSides old.doc) (sym (ap (λ (s : MapState). s.doc) same)) (same_keeps old.doc)

  fault_keeps : (o : Option Refusal)
      → MatchOption o (IsSameMap old new ⊎ StopsOn old new c) (RefusesOn old new c)
      → KeepsSides old.doc new.doc
  fault_keeps None (inl same) = same_map_keeps same
  fault_keeps None (inr stops) = part_keeps stops.bound old.doc new.doc proper stops.part
  fault_keeps (Some r) refuses = same_map_keeps refuses.same

  pub answer_keeps : {A : Type 0} (result : Result (Answer A) EditFault) → AnswersMap old new c result
      → EditsVertices c → KeepsSides old.doc new.doc
  answer_keeps (Ok answer) accepts edits =
      subst (λ (r : Answered × State). KeepsSides old.doc r.1.doc) (sym (accepts.steps 0 []))
      (step_keeps 0 (with_past old []) proper c edits)
  answer_keeps (Err fault) fails edits = fault_keeps (refusal_of fault) fails
