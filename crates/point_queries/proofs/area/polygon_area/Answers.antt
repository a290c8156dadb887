use Rattle.kit_words.proofs.Common.{◌≡◌, ◌∙◌, ◌<◌, ◌≤◌, ◌+◌, ◌-ℤ◌, refl, sym, ap, [], length, get_or, drop, to_z, of_z}
use Rattle.kit_words.proofs.Common.{arith, w128, fold, ints, drop_all}
use Rattle.ring_machine.specs.Common.{absolute_area, feature_at}
use Rattle.point_queries.proofs.Shows.{one_of}
use Rattle.point_queries.proofs.Rest.{fold_rest, sum_rest, outer_first, sum_outer_first}
use Rattle.point_queries.proofs.area.polygon_area.Goals as goal

pub ring_area-area-requires : goal.ring_area-area-requires
ring_area-area-requires g c =
    let rings = get_or (feature_at c.args.map.now.doc c.args.f).polygons c.args.polygon [] in
    omega (arith, one_of length rings 0 refl, c.requires.few)

pub loop-hole-init : goal.loop-hole-init
loop-hole-init g c =
    let rings = get_or (feature_at c.args.map.now.doc c.args.f).polygons c.args.polygon [] in
    let begun : to_z w128 (of_z w128 c.ring_area-area.result) ≡ absolute_area (get_or rings 0 []) = omega (arith, ints, c.ring_area-area.ensures.value) in
    record {
      whole = ap (λ z. fold (λ so_far hole. so_far -ℤ absolute_area hole) z (drop 1 rings)) begun ∙ outer_first rings;
      bound = omega (arith, ints, sum_outer_first rings, c.ring_area-area.ensures.bound);
    }

pub ring_area-part-requires : goal.ring_area-part-requires
ring_area-part-requires g c =
    let rings = get_or (feature_at c.args.map.now.doc c.args.f).polygons c.args.polygon [] in
    omega (arith, one_of length rings c.loop-hole.hole refl, c.requires.few)

pub overflow_sub-area : goal.overflow_sub-area
overflow_sub-area g c =
    let rings = get_or (feature_at c.args.map.now.doc c.args.f).polygons c.args.polygon [] in
    let within : c.loop-hole.hole < length rings = omega (arith, c.requires.all, c.loop-hole-test.true) in
    let rest = sum_rest length rings c.loop-hole.hole [] within in
    omega (arith, ints, rest, c.requires.few, c.loop-hole.invariant.bound, c.ring_area-part.ensures.bound)

pub loop-hole-preserved : goal.loop-hole-preserved
loop-hole-preserved g c =
    let rings = get_or (feature_at c.args.map.now.doc c.args.f).polygons c.args.polygon [] in
    let within : c.loop-hole.hole < length rings = omega (arith, c.requires.all, c.loop-hole-test.true) in
    let rest = sum_rest length rings c.loop-hole.hole [] within in
    let so_far = to_z w128 c.loop-hole.area-bits in
    let less : to_z w128 (of_z w128 (so_far -ℤ to_z w128 (of_z w128 c.ring_area-part.result))) ≡ so_far -ℤ absolute_area (get_or rings c.loop-hole.hole []) = omega (arith, ints, rest, c.requires.few, c.loop-hole.invariant.bound, c.ring_area-part.ensures.value, c.ring_area-part.ensures.bound) in
    record {
      whole =
          ap (λ z. fold (λ sum hole. sum -ℤ absolute_area hole) z (drop (c.loop-hole.hole + 1) rings)) less
          ∙ sym (fold_rest (λ sum hole. sum -ℤ absolute_area hole) so_far rings c.loop-hole.hole [] within)
          ∙ c.loop-hole.invariant.whole;
      bound = omega (arith, ints, rest, c.requires.few, c.loop-hole.invariant.bound, c.ring_area-part.ensures.bound);
    }

pub returns-clause-value : goal.returns-clause-value
returns-clause-value g c =
    let rings = get_or (feature_at c.args.map.now.doc c.args.f).polygons c.args.polygon [] in
    let past : length rings ≤ c.loop-hole.hole = omega (arith, c.requires.all, c.loop-hole-test.false) in
    sym (ap (fold (λ sum hole. sum -ℤ absolute_area hole) (to_z w128 c.loop-hole.area-bits)) (drop_all c.loop-hole.hole rings past))
    ∙ c.loop-hole.invariant.whole

pub returns-clause-bound : goal.returns-clause-bound
returns-clause-bound g c = omega (arith, ints, c.loop-hole.invariant.bound)
