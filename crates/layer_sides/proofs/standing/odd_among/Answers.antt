use Rattle.kit_words.proofs.Common.{ap, sym, ◌∙◌, arith, take_all, false≢true}
use Rattle.layer_sides.specs.Standing.{taken, put}
use Rattle.layer_sides.proofs.Cancelling.{kept_none, popped, next, times, is_odd}
use Rattle.layer_sides.proofs.standing.odd_among.Goals as goal
use Rattle.layer_sides.proofs.standing.odd_among.Goals.{then-ends_in, else-ends_in+in_ok-push}

pub loop-x-init : goal.loop-x-init
loop-x-init g c = rw c.new-kept.ensures.items kept_none

pub loop-x-preserved : goal.loop-x-preserved
loop-x-preserved g c =
    let l = c.loop-x in
    let x = c.x-item.result in
    let ends = rw c.as_slice.ensures.value at c.ends_in.ensures in
    next c.args.sorted.now l.x-index x l.kept.items c.if-ends_in.kept.items c.requires c.loop-x-test.true c.x-item.is l.invariant
    (elim c.if-ends_in.branch [
      | then-ends_in w ↦
          taken (popped l.kept.items c.if-ends_in.kept.items x _ (ends.0 w.if-ends_in.true) (omega (arith, l.kept.ok.0))
          (ap (λ v. v.items) w.kept-is ∙ w.pop.ensures.rest))
      | else-ends_in+in_ok-push w ↦
          put (ap (λ v. v.items) w.kept-is ∙ w.in_ok-push.ensures.items) (λ k. false≢true (sym w.if-ends_in.false ∙ ends.1 k))
    ])

pub returns-clause-ascending : goal.returns-clause-ascending
returns-clause-ascending g c = c.loop-x.invariant.ascending

pub returns-clause-odd : goal.returns-clause-odd
returns-clause-odd g c = λ x.
    c.loop-x.invariant.odd x
    ∙ ap (λ z. is_odd (times x z)) (take_all c.loop-x.x-index c.args.sorted.now c.loop-x-test.false)
