use Rattle.kit_words.proofs.Common.{◌∙◌, [], true, ap, subst}
use Rattle.segment_sets.specs.Common.{Gives, has}
use Rattle.segment_sets.specs.Common.{times_by}
use Rattle.segment_sets.proofs.Common.{near_given}
use Rattle.segment_sets.proofs.list_index.ListIndex.near.Goals as goal

pub returns-then-gives_once-clause-near : goal.returns-then-gives_once-clause-near
returns-then-gives_once-clause-near g c =
    let held = g.I.SegIndex.held c.args.index.now in
    let times = times_by (g.I.SegIndex.cells c.args.index.now) in
    let given = c.candidates.new.out.items in
    let gives : Gives held times c.args.rect [] given true =
    subst (λ old. Gives held times c.args.rect old given true) c.in_ok-items.ensures.items c.in_ok-candidates.ensures in
    near_given held times c.args.rect given c.of.result gives (λ t. ap (λ xs. has xs t) c.of.ensures)

pub returns-clause-near : goal.returns-clause-near
returns-clause-near g c =
    let held = g.I.SegIndex.held c.args.index.now in
    let times = times_by (g.I.SegIndex.cells c.args.index.now) in
    let given = c.candidates.new.out.items in
    let gives : Gives held times c.args.rect [] given true =
    subst (λ old. Gives held times c.args.rect old given true) c.in_ok-items.ensures.items c.in_ok-candidates.ensures in
    near_given held times c.args.rect given c.in_ok-once.field-0 gives
    (λ t. c.in_ok-once.ensures.same t ∙ ap (λ xs. has xs t) c.deref.ensures.value)
