use Rattle.kit_words.proofs.Common.{subst}
use Rattle.ring_machine.specs.Common.{Undo, NothingToUndo}
use Rattle.arc_store.specs.Common.{record_seen}
use Rattle.undo_ring.specs.Common.{Refuses, IsUndone, edited_by}
use Rattle.undo_ring.proofs.Recording.{none_kept, taken_back}
use Rattle.undo_ring.proofs.editor.Editor.undo.Goals as goal

pub returns-in_default-clause-failed : goal.returns-in_default-clause-failed
returns-in_default-clause-failed g c =
    let e = c.self.inside in
    subst (λ z. Refuses z (edited_by record_seen e.held c.pop_front.new.self) Undo NothingToUndo) c.self.view_is
    (none_kept record_seen e.held e.records c.pop_front.new.self c.self.invariant.trail c.in_default.ensures.items c.in_default.ensures.value).1

pub returns-in-Ok-clause-undone : goal.returns-in-Ok-clause-undone
returns-in-Ok-clause-undone g c =
    let e = c.self.inside in
    subst (λ z. IsUndone z (edited_by record_seen c.restore.new.self c.pop_front.new.self)) c.self.view_is
    (taken_back record_seen e.held e.records c.pop_front.new.self c.self.invariant.trail c.in-Some.ensures.items c.in-Some.made c.in-Some.ensures.value
    c.restore.new.self c.in-Ok.ensures.restored).1
