use Rattle.kit_words.proofs.Common.{sym, subst}
use Rattle.ring_machine.specs.Common.{Split}
use Rattle.edit_records.specs.Common.{string_text}
use Rattle.undo_ring.specs.Common.{AnswersMap}
use Rattle.undo_ring.proofs.MapAnswers.{split_answered}
use Rattle.undo_ring.proofs.answering.cut.Goals as goal

pub returns : goal.returns
returns g c =
    subst (AnswersMap c.args.map.now c.split.new.map (Split c.args.feature (string_text c.args.id.now) c.args.path.now)) (sym c.made.ensures)
    (split_answered _ c.args.map.now c.split.new.map c.requires.taken c.args.feature c.args.id.now c.args.path.now c.in-Ok.id c.in-Ok-path_in.path c.in-Ok.ensures c.in-Ok-path_in.ensures
    c.split.result c.split.ensures.edits c.split.ensures.made c.split.ensures.recorded)
