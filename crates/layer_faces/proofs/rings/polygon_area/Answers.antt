use Rattle.kit_words.proofs.Common.{◌≡◌, to_z, of_z, ◌+◌, ◌-◌, sym, ap, ◌∙◌, length, map, take, drop, arith, ◌-ℤ◌, w128}
use Rattle.kit_words.proofs.Common.{sum_by, fold, ints, take_all, sum_by-cons, list_is}
use Rattle.ring_machine.specs.Query as query
use Rattle.layer_faces.proofs.Counting.{positions_of}
use Rattle.layer_faces.proofs.Summing.{fold_more, sum_more, sum_front}
use Rattle.layer_faces.proofs.rings.polygon_area.Goals as goal

pub ring_area-part-requires : goal.ring_area-part-requires
ring_area-part-requires g c =
    let holes = take (length c.args.polygon.now - 1) (drop 1 c.args.polygon.now) in
    let is = list_is c.args.polygon.now c.outer-item.result c.in-len1-up.len_at_least c.outer-item.is in
    let total = sym (ap (λ ps. sum_by length (map positions_of ps)) is) ∙ sum_by-cons length c.outer-item.result.items (map positions_of holes) in
    let outer_same : length c.as_slice.result.now ≡ length c.outer-item.result.items = ap length c.as_slice.ensures.value in
    let same : length c.as_slice-in-loop-hole.result.now ≡ length c.hole-item.result.items = ap length c.as_slice-in-loop-hole.ensures.value in
    let more = sum_more length positions_of holes c.loop-hole.hole-index c.hole-item.result c.loop-hole-test.true c.hole-item.is in
    let front = sum_front length positions_of holes (c.loop-hole.hole-index + 1) in
    omega (arith, total, same, more, front, c.requires)

pub overflow_sub-area : goal.overflow_sub-area
overflow_sub-area g c =
    let holes = take (length c.args.polygon.now - 1) (drop 1 c.args.polygon.now) in
    let is = list_is c.args.polygon.now c.outer-item.result c.in-len1-up.len_at_least c.outer-item.is in
    let total = sym (ap (λ ps. sum_by length (map positions_of ps)) is) ∙ sum_by-cons length c.outer-item.result.items (map positions_of holes) in
    let outer_same : length c.as_slice.result.now ≡ length c.outer-item.result.items = ap length c.as_slice.ensures.value in
    let same : length c.as_slice-in-loop-hole.result.now ≡ length c.hole-item.result.items = ap length c.as_slice-in-loop-hole.ensures.value in
    let more = sum_more length positions_of holes c.loop-hole.hole-index c.hole-item.result c.loop-hole-test.true c.hole-item.is in
    let front = sum_front length positions_of holes (c.loop-hole.hole-index + 1) in
    omega (arith, ints, total, outer_same, same, more, front, c.requires, c.loop-hole.invariant.bound, c.ring_area-area.ensures.bound, c.ring_area-part.ensures.bound)

pub loop-hole-preserved : goal.loop-hole-preserved
loop-hole-preserved g c =
    let holes = take (length c.args.polygon.now - 1) (drop 1 c.args.polygon.now) in
    let is = list_is c.args.polygon.now c.outer-item.result c.in-len1-up.len_at_least c.outer-item.is in
    let total = sym (ap (λ ps. sum_by length (map positions_of ps)) is) ∙ sum_by-cons length c.outer-item.result.items (map positions_of holes) in
    let outer_same : length c.as_slice.result.now ≡ length c.outer-item.result.items = ap length c.as_slice.ensures.value in
    let same : length c.as_slice-in-loop-hole.result.now ≡ length c.hole-item.result.items = ap length c.as_slice-in-loop-hole.ensures.value in
    let more = sum_more length positions_of holes c.loop-hole.hole-index c.hole-item.result c.loop-hole-test.true c.hole-item.is in
    let front = sum_front length positions_of holes (c.loop-hole.hole-index + 1) in
    let begun = to_z w128 (of_z w128 c.ring_area-area.result) in
    let step = fold_more (λ so_far hole. so_far -ℤ query.absolute_area hole) begun positions_of holes c.loop-hole.hole-index c.hole-item.result c.loop-hole-test.true c.hole-item.is in
    let value : c.ring_area-part.result ≡ query.absolute_area c.hole-item.result.items = c.ring_area-part.ensures.value ∙ ap query.absolute_area c.as_slice-in-loop-hole.ensures.value in
    record {
      whole = omega (arith, ints, step, value, c.loop-hole.invariant.whole, total, outer_same, same, more, front, c.requires, c.loop-hole.invariant.bound, c.ring_area-area.ensures.bound, c.ring_area-part.ensures.bound);
      bound = omega (arith, ints, total, outer_same, same, more, front, c.requires, c.loop-hole.invariant.bound, c.ring_area-area.ensures.bound, c.ring_area-part.ensures.bound);
    }

pub returns-clause-value : goal.returns-clause-value
returns-clause-value g c =
    let holes = take (length c.args.polygon.now - 1) (drop 1 c.args.polygon.now) in
    let is = list_is c.args.polygon.now c.outer-item.result c.in-len1-up.len_at_least c.outer-item.is in
    let begun = to_z w128 (of_z w128 c.ring_area-area.result) in
    let outer : c.ring_area-area.result ≡ query.absolute_area c.outer-item.result.items = c.ring_area-area.ensures.value ∙ ap query.absolute_area c.as_slice.ensures.value in
    let begins : begun ≡ query.absolute_area c.outer-item.result.items = omega (arith, ints, outer) in
    c.loop-hole.invariant.whole ∙ ap (λ hs. fold (λ so_far hole. so_far -ℤ query.absolute_area hole) begun (map positions_of hs)) (take_all c.loop-hole.hole-index holes c.loop-hole-test.false)
    ∙ ap (λ z. fold (λ so_far hole. so_far -ℤ query.absolute_area hole) z (map positions_of holes)) begins
    ∙ ap (λ ps. query.polygon_area (map positions_of ps)) is

pub returns-clause-bound : goal.returns-clause-bound
returns-clause-bound g c =
    let holes = take (length c.args.polygon.now - 1) (drop 1 c.args.polygon.now) in
    let is = list_is c.args.polygon.now c.outer-item.result c.in-len1-up.len_at_least c.outer-item.is in
    let total = sym (ap (λ ps. sum_by length (map positions_of ps)) is) ∙ sum_by-cons length c.outer-item.result.items (map positions_of holes) in
    let outer_same : length c.as_slice.result.now ≡ length c.outer-item.result.items = ap length c.as_slice.ensures.value in
    let done = ap (λ hs. sum_by length (map positions_of hs)) (take_all c.loop-hole.hole-index holes c.loop-hole-test.false) in
    omega (arith, ints, total, outer_same, done, c.loop-hole.invariant.bound, c.ring_area-area.ensures.bound)
