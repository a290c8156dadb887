use Rattle.kit_words.proofs.Common.{ap, sym, ◌∙◌, arith, take_all, false≢true}
use Rattle.walk_mending.specs.Common.{taken, put}
use Rattle.walk_mending.proofs.Cancelling.{kept_none, popped, next, times, is_odd}
use Rattle.walk_mending.proofs.odd.odd_among.Goals as goal
use Rattle.walk_mending.proofs.odd.odd_among.Goals.{then-ends_in, else-ends_in+in_ok-push}

pub loop-segment-init : goal.loop-segment-init
loop-segment-init g c = rw c.new-kept.ensures.items kept_none

pub loop-segment-preserved : goal.loop-segment-preserved
loop-segment-preserved g c =
    let l = c.loop-segment in
    let s = c.segment-item.result in
    let ends = rw c.as_slice.ensures.value at c.ends_in.ensures in
    next c.args.sorted.now l.segment-index s l.kept.items c.if-ends_in.kept.items c.requires c.loop-segment-test.true c.segment-item.is l.invariant
    (elim c.if-ends_in.branch [
      | then-ends_in w ↦
          taken (popped l.kept.items c.if-ends_in.kept.items s _ (ends.0 w.if-ends_in.true) (omega (arith, l.kept.ok.0))
          (ap (λ v. v.items) w.kept-is ∙ w.pop.ensures.rest))
      | else-ends_in+in_ok-push w ↦
          put (ap (λ v. v.items) w.kept-is ∙ w.in_ok-push.ensures.items) (λ k. false≢true (sym w.if-ends_in.false ∙ ends.1 k))
    ])

pub returns-clause-ascending : goal.returns-clause-ascending
returns-clause-ascending g c = c.loop-segment.invariant.ascending

pub returns-clause-odd : goal.returns-clause-odd
returns-clause-odd g c = λ s.
    c.loop-segment.invariant.odd s
    ∙ ap (λ z. is_odd (times s z)) (take_all c.loop-segment.segment-index c.args.sorted.now c.loop-segment-test.false)
