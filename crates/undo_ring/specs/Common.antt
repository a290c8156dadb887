-- The words of this crate that others cite most, passed on from one place. Declares nothing.
pub use Rattle.undo_ring.specs.Answered.{AcceptsOn, AnswersMap, FailsOn, IsGrown, KeepsMap, RefusesOn, StaysPlaced}
pub use Rattle.undo_ring.specs.Answered.{StopsOn, done_of, is_change, made_of, past_after, with_past}
pub use Rattle.undo_ring.specs.Answers.{answer_of, refusal_of}
pub use Rattle.undo_ring.specs.Boxed.{AreCovered, GrowsWith, HasCome, HasGrown, CoversSince, HasComing, touched_by}
pub use Rattle.undo_ring.specs.Edited.{Applies, Edited, EditsVertices, CommandFails, IsCutShort, IsSameButTests, IsUndone, LacksMemory}
pub use Rattle.undo_ring.specs.Edited.{Refuses, StaysDone, with_no_history, machine_of}
pub use Rattle.undo_ring.specs.Trails.{IsTrail, edited_by, records_kept}
pub use Rattle.undo_ring.specs.declared.answer.Answer.{Answer}
pub use Rattle.undo_ring.specs.declared.near.Near.{Near}
