use Rattle.kit_words.proofs.Common.{Bool, subst}
use Rattle.ring_machine.specs.Common.{first_pair}
use Rattle.map_drawing.specs.Names.{IsLabelledIn}
use Rattle.border_show.proofs.MarkLemmas.{marked}
use Rattle.border_show.proofs.showing.show.Goals as goal

pub returns-in_ok-picture-in-Ok-clause-marked : goal.returns-in_ok-picture-in-Ok-clause-marked
returns-in_ok-picture-in-Ok-clause-marked c = λ d reads.
    marked _ c.in-Ok.drawing.view.conflict (first_pair d) (c.in-Ok.ensures.drawn.conflict d reads) c.in_ok-picture-in-Ok.ensures.named

pub returns-in_ok-picture-in-Ok-clause-labelled : goal.returns-in_ok-picture-in-Ok-clause-labelled
returns-in_ok-picture-in-Ok-clause-labelled c =
    let drawn = c.in-Ok.ensures.drawn in
    let conflict = c.in-Ok.drawing.view.conflict in
    record {
      conflict = conflict;
      is_first = drawn.conflict;
      labelled = subst (λ (asked : Bool). IsLabelledIn c.in_ok-picture-in-Ok.field-0.items asked conflict) drawn.view.1 c.in_ok-picture-in-Ok.ensures.labelled;
    }
