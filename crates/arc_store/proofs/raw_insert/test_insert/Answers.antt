use Rattle.kit_words.proofs.Common.{◌∙◌, ap, [], ◌∷◌, not}
use Rattle.ring_machine.specs.Common.{Sweeps, first_of, ◌unless◌}
use Rattle.arc_store.proofs.Judged.{insert_refused, insert_decided}
use Rattle.arc_store.proofs.raw_insert.test_insert.Goals as goal

pub returns-in-Ok-true-clause-refused : goal.returns-in-Ok-true-clause-refused
returns-in-Ok-true-clause-refused g c = λ d i.
    insert_decided d (g.I.SegIndex.held c.args.index.now) c.args.ends.0 c.args.ends.1 c.args.q i c.args.before c.args.after.now c.requires.before c.requires.after c.in-Ok-true.field-0 c.in-Ok.ensures.apart c.in-Ok-true.ensures
    ∙ ap (λ found. first_of ((Sweeps unless not found) ∷ [])) c.in-Ok-true.field-0-test

pub returns-in-Ok-false-clause-accepted : goal.returns-in-Ok-false-clause-accepted
returns-in-Ok-false-clause-accepted g c = λ d i.
    insert_decided d (g.I.SegIndex.held c.args.index.now) c.args.ends.0 c.args.ends.1 c.args.q i c.args.before c.args.after.now c.requires.before c.requires.after c.in-Ok-false.field-0 c.in-Ok.ensures.apart c.in-Ok-false.ensures
    ∙ ap (λ found. first_of ((Sweeps unless not found) ∷ [])) c.in-Ok-false.field-0-test

pub returns-in-Err-clause-refused : goal.returns-in-Err-clause-refused
returns-in-Err-clause-refused g c = λ d i.
    insert_refused d (g.I.SegIndex.held c.args.index.now) c.args.ends.0 c.args.ends.1 c.args.q i c.args.before c.args.after.now c.requires.before c.requires.after c.in-Err.fault c.in-Err.ensures.refused
