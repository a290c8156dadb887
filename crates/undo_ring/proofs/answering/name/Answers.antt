use Rattle.kit_words.proofs.Common.{sym, subst}
use Rattle.ring_machine.specs.Common.{Rename}
use Rattle.edit_records.specs.Common.{string_text}
use Rattle.undo_ring.specs.Common.{AnswersMap}
use Rattle.undo_ring.proofs.MapAnswers.{rename_answered}
use Rattle.undo_ring.proofs.answering.name.Goals as goal

pub returns : goal.returns
returns g c =
    subst (AnswersMap c.args.map.now c.rename.new.map (Rename c.args.feature (string_text c.args.id.now))) (sym c.done.ensures)
    (rename_answered _ c.args.map.now c.rename.new.map c.requires c.args.feature c.args.id.now c.in-Ok.id c.in-Ok.ensures
    c.rename.result c.rename.ensures.edits c.rename.ensures.recorded)
