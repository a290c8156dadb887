use Rattle.kit_words.proofs.Common.{sym, ap, ap₂, ◌∙◌, [], ◌∷◌, not}
use Rattle.ring_machine.specs.Common.{WrongSide, TooLarge, first_of, ◌unless◌}
use Rattle.arc_store.proofs.CutDecided.{split_refused}
use Rattle.arc_store.proofs.SplitPlan.{split_rest}
use Rattle.arc_store.proofs.raw_split.test_split.Goals as goal

pub returns-in-Ok-true-clause-refused : goal.returns-in-Ok-true-clause-refused
returns-in-Ok-true-clause-refused g c = λ d next n id t.
    split_rest d (g.I.SegIndex.held c.args.index.now) next n id _ _ c.args.room t c.args.added.now c.requires.added c.in-Ok.ensures.apart
    ∙ ap (λ y. first_of ((WrongSide unless not y) ∷ (TooLarge unless c.args.room) ∷ [])) (sym c.in-Ok-true.ensures ∙ c.in-Ok-true.field-0-test)

pub returns-then-room-clause-accepted : goal.returns-then-room-clause-accepted
returns-then-room-clause-accepted g c = λ d next n id t.
    split_rest d (g.I.SegIndex.held c.args.index.now) next n id _ _ c.args.room t c.args.added.now c.requires.added c.in-Ok.ensures.apart
    ∙ ap₂ (λ y z. first_of ((WrongSide unless not y) ∷ (TooLarge unless z) ∷ [])) (sym c.in-Ok-false.ensures ∙ c.in-Ok-false.field-0-test) c.if-room.true

pub returns-else-room-clause-refused : goal.returns-else-room-clause-refused
returns-else-room-clause-refused g c = λ d next n id t.
    split_rest d (g.I.SegIndex.held c.args.index.now) next n id _ _ c.args.room t c.args.added.now c.requires.added c.in-Ok.ensures.apart
    ∙ ap₂ (λ y z. first_of ((WrongSide unless not y) ∷ (TooLarge unless z) ∷ [])) (sym c.in-Ok-false.ensures ∙ c.in-Ok-false.field-0-test) c.if-room.false

pub returns-in-Err-clause-refused : goal.returns-in-Err-clause-refused
returns-in-Err-clause-refused g c = λ d next n id t.
    split_refused d next n id _ t.cuttable (g.I.SegIndex.held c.args.index.now) t.indexed c.args.added.now c.requires.added c.in-Err.fault c.in-Err.ensures.refused
