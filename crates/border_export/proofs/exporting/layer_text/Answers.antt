use Rattle.kit_words.proofs.Common.{ap, ◌∙◌, refl}
use Rattle.border_export.proofs.TextLemmas.{layer_sent}
use Rattle.border_export.proofs.exporting.layer_text.Goals as goal

pub returns-in-Ok-clause-written : goal.returns-in-Ok-clause-written
returns-in-Ok-clause-written c =
    layer_sent _ _ _ _ _ _ c.new-text.result.writer.items c.export.new.out.writer.items refl refl
    (ap (λ w. w.items) c.new-text.ensures.writer ∙ c.room_for_text.ensures) c.asked.ensures c.in-Ok.ensures.written
