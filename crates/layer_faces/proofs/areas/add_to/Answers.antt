use Rattle.kit_words.proofs.Common.{◌≡◌, pos, ◌+ℤ◌, ◌+◌, ◌*◌, ◌<◌, ◌^◌, unsigned_abs, sym, ap, ◌∙◌, subst, arith, ints, to_z, of_z, w128, eqb, get_or, length, take, length-set, FitsSigned}
use Rattle.std.specs.List.{count_by}
use Rattle.std.proofs.lemmas.Int.{fits_signed_from_abs, to_z-of_z}
use Rattle.std.proofs.lemmas.List.{get_or_default}
use Rattle.layer_faces.proofs.Adding.{add_each, add_sum, adding_near, counted_few, now_near}
use Rattle.layer_faces.proofs.areas.add_to.Goals as goal

-- the area that is reached fits
fits : (c : goal.After-areas-1) → FitsSigned w128 (get_or c.loop-n.areas (get_or c.args.numbers.now c.loop-n.n-index 0) (pos 0))
fits c =
    let i = c.loop-n.n-index in
    let n = get_or c.args.numbers.now i 0 in
    let area = to_z w128 (of_z w128 c.args.area) in
    let same : area ≡ c.args.area = omega (arith, ints) in
    let room = c.requires.room n (pos 0) (c.requires.within i 0 c.loop-n-test.true) in
    fits_signed_from_abs w128 (get_or c.loop-n.areas n (pos 0))
    (now_near (count_by (λ m. eqb m n) (take i c.args.numbers.now)) i (length c.args.numbers.now) (get_or c.args.areas.now n (pos 0)) area (get_or c.loop-n.areas n (pos 0))
    (counted_few n i c.args.numbers.now) c.loop-n-test.true (c.loop-n.invariant.each n)
    (subst (λ z. unsigned_abs (get_or c.args.areas.now n (pos 0)) + length c.args.numbers.now * unsigned_abs z < 2 ^ 127) (sym same) room))

pub overflow_add-areas : goal.overflow_add-areas
overflow_add-areas c =
    let i = c.loop-n.n-index in
    let n = get_or c.args.numbers.now i 0 in
    let area = to_z w128 (of_z w128 c.args.area) in
    let z = get_or c.loop-n.areas n (pos 0) in
    let same : area ≡ c.args.area = omega (arith, ints) in
    let room = c.requires.room n (pos 0) (c.requires.within i 0 c.loop-n-test.true) in
    fits_signed_from_abs w128 (to_z w128 (of_z w128 z) +ℤ area)
    (adding_near (count_by (λ m. eqb m n) (take i c.args.numbers.now)) i (length c.args.numbers.now) (get_or c.args.areas.now n (pos 0)) area (to_z w128 (of_z w128 z))
    (counted_few n i c.args.numbers.now) c.loop-n-test.true (to_z-of_z w128 z (fits c) ∙ c.loop-n.invariant.each n)
    (subst (λ y. unsigned_abs (get_or c.args.areas.now n (pos 0)) + length c.args.numbers.now * unsigned_abs y < 2 ^ 127) (sym same) room))

pub loop-n-preserved : goal.loop-n-preserved
loop-n-preserved c =
    let i = c.loop-n.n-index in
    let n = get_or c.args.numbers.now i 0 in
    let area = to_z w128 (of_z w128 c.args.area) in
    let z = get_or c.loop-n.areas n (pos 0) in
    let within : n < length c.loop-n.areas = omega (arith, c.requires.within i 0 c.loop-n-test.true, c.loop-n.auto.areas) in
    let v = to_z w128 (of_z w128 (to_z w128 (of_z w128 z) +ℤ area)) in
    let is : v ≡ z +ℤ area = to_z-of_z w128 (to_z w128 (of_z w128 z) +ℤ area) (overflow_add-areas c) ∙ ap (λ y. y +ℤ area) (to_z-of_z w128 z (fits c)) in
    record {
      each = add_each c.args.areas.now c.loop-n.areas c.args.numbers.now i n area v c.loop-n-test.true
          (get_or_default c.args.numbers.now i 0 n c.loop-n-test.true) within is c.loop-n.invariant.each;
      sum = add_sum c.loop-n.areas i n area v _ within is c.loop-n.invariant.sum;
      same = length-set c.loop-n.areas n v ∙ c.loop-n.invariant.same;
    }
