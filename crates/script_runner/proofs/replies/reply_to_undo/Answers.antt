use Rattle.kit_words.proofs.Common.{subst}
use Rattle.undo_ring.specs.Common.{StaysDone}
use Rattle.script_runner.proofs.ReplyLemmas.{undone, not_undone}
use Rattle.script_runner.proofs.replies.reply_to_undo.Goals as goal

pub returns-in_ok-extend_from_slice-in-Ok : goal.returns-in_ok-extend_from_slice-in-Ok
returns-in_ok-extend_from_slice-in-Ok g c =
    undone c.args.editor.now c.undo.new.self c.args.text.now.items c.extend_from_slice.new.self.items c.in-Ok.ensures.undone c.in_ok-extend_from_slice-in-Ok.ensures.items

pub returns-in_ok-extend_from_slice-in-Err-NothingToUndo : goal.returns-in_ok-extend_from_slice-in-Err-NothingToUndo
returns-in_ok-extend_from_slice-in-Err-NothingToUndo g c =
    not_undone c.args.editor.now c.undo.new.self c.args.text.now.items c.extend_from_slice-in-Err-NothingToUndo.new.self.items
    (subst (λ f. StaysDone f c.args.editor.now c.undo.new.self) c.in-Err-NothingToUndo.field-0-is c.in-Err-NothingToUndo.ensures.failed)
    c.in_ok-extend_from_slice-in-Err-NothingToUndo.ensures.items
