use Rattle.kit_words.proofs.Common.{pos, ◌*ℤ◌, ◌-◌, ◌≤◌, length, arith, ints, sym, ap, ◌∙◌, subst, take_all}
use Rattle.layer_faces.specs.Areas.{total}
use Rattle.layer_faces.specs.Weighed.{reach}
use Rattle.layer_faces.proofs.Weighing.{more_weight, more_reach, reach_within}
use Rattle.layer_faces.proofs.sums.over_of.Goals as goal

pub over_in-over-requires : goal.over_in-over-requires
over_in-over-requires g c =
    record { few = subst (λ f. length f.holders.items ≤ 4000000) (sym c.face-item.is) (c.requires.few c.loop-face.face-index c.face-item.result c.loop-face-test.true) }

pub overflow_add-over : goal.overflow_add-over
overflow_add-over g c =
    let within = reach_within c.args.faces.now c.loop-face.face-index c.face-item.result c.loop-face-test.true c.face-item.is in
    omega (arith, ints, within, c.requires.small, c.loop-face.invariant.bound, c.over_in-over.ensures.bound)

pub loop-face-preserved : goal.loop-face-preserved
loop-face-preserved g c =
    let within = reach_within c.args.faces.now c.loop-face.face-index c.face-item.result c.loop-face-test.true c.face-item.is in
    let reached = more_reach c.args.faces.now c.loop-face.face-index c.face-item.result c.loop-face-test.true c.face-item.is in
    let more = more_weight c.args.faces.now c.loop-face.face-index c.face-item.result c.loop-face-test.true c.face-item.is (λ f. pos (length f.holders.items - 1) *ℤ f.twice_area) in
    record {
      whole = omega (arith, ints, more, within, c.requires.small, c.loop-face.invariant.whole, c.loop-face.invariant.bound, c.over_in-over.ensures.value, c.over_in-over.ensures.bound);
      bound = omega (arith, ints, reached, within, c.requires.small, c.loop-face.invariant.bound, c.over_in-over.ensures.bound);
    }

pub returns : goal.returns
returns g c =
    let all = take_all c.loop-face.face-index c.args.faces.now c.loop-face-test.false in
    record {
      value = c.loop-face.invariant.whole ∙ ap (total (λ f. pos (length f.holders.items - 1) *ℤ f.twice_area)) all;
      bound = omega (arith, ap reach all, c.loop-face.invariant.bound, c.requires.small);
    }
