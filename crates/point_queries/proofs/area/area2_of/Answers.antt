use Rattle.kit_words.proofs.Common.{◌≡◌, ◌∙◌, ◌<◌, ◌≤◌, ◌+◌, ◌+ℤ◌, false, true, refl, sym, ap, [], length, get_or, drop}
use Rattle.kit_words.proofs.Common.{to_z, of_z, arith, is_some, w128, fold, sum_by, false≢true, ints, drop_all}
use Rattle.ring_machine.specs.Common.{has_feature, feature_at}
use Rattle.ring_machine.specs.Query as query
use Rattle.point_queries.proofs.Shows.{length_shown, count_shown, is_shown, one_of, feature-le-size}
use Rattle.point_queries.proofs.Rest.{fold_rest, sum_rest}
use Rattle.point_queries.proofs.area.area2_of.Goals as goal

pub returns-in_default-clause-there : goal.returns-in_default-clause-there
returns-in_default-clause-there g c =
    let none : has_feature c.args.map.now.doc c.args.f ≡ false = is_shown c.args.map.now.doc c.args.f ∙ ap is_some (sym c.feature.ensures.shown ∙ c.in_default.is) in
    (λ h. absurd (false≢true h), λ h. sym none ∙ h)

pub polygon_area-part-requires-clause-all : goal.polygon_area-part-requires-clause-all
polygon_area-part-requires-clause-all g c =
    c.ring_count.ensures ∙ count_shown c.args.map.now.doc c.args.f c.in-Some.feature (sym c.in-Some.is ∙ c.feature.ensures.shown) c.loop-polygon.polygon

pub polygon_area-part-requires-clause-few : goal.polygon_area-part-requires-clause-few
polygon_area-part-requires-clause-few g c =
    let polygons = (feature_at c.args.map.now.doc c.args.f).polygons in
    omega (arith, one_of (sum_by length) polygons c.loop-polygon.polygon refl, feature-le-size c.args.map.now.doc c.args.f, c.feature.ensures.small)

pub overflow_add-area : goal.overflow_add-area
overflow_add-area g c =
    let polygons = (feature_at c.args.map.now.doc c.args.f).polygons in
    let long = c.polygon_count-polygon-end.ensures ∙ length_shown c.args.map.now.doc c.args.f c.in-Some.feature (sym c.in-Some.is ∙ c.feature.ensures.shown) in
    let within : c.loop-polygon.polygon < length polygons = omega (arith, long, c.loop-polygon-test.true) in
    let rest = sum_rest (sum_by length) polygons c.loop-polygon.polygon [] within in
    omega (arith, ints, rest, feature-le-size c.args.map.now.doc c.args.f, c.feature.ensures.small, c.loop-polygon.invariant.bound, c.polygon_area-part.ensures.bound)

pub loop-polygon-preserved : goal.loop-polygon-preserved
loop-polygon-preserved g c =
    let polygons = (feature_at c.args.map.now.doc c.args.f).polygons in
    let long = c.polygon_count-polygon-end.ensures ∙ length_shown c.args.map.now.doc c.args.f c.in-Some.feature (sym c.in-Some.is ∙ c.feature.ensures.shown) in
    let within : c.loop-polygon.polygon < length polygons = omega (arith, long, c.loop-polygon-test.true) in
    let rest = sum_rest (sum_by length) polygons c.loop-polygon.polygon [] within in
    let small = feature-le-size c.args.map.now.doc c.args.f in
    let so_far = to_z w128 c.loop-polygon.area-bits in
    let more : to_z w128 (of_z w128 (so_far +ℤ to_z w128 (of_z w128 c.polygon_area-part.result))) ≡ so_far +ℤ query.polygon_area (get_or polygons c.loop-polygon.polygon []) = omega (arith, ints, rest, small, c.feature.ensures.small, c.loop-polygon.invariant.bound, c.polygon_area-part.ensures.value, c.polygon_area-part.ensures.bound) in
    record {
      whole =
          ap (λ z. fold (λ sum polygon. sum +ℤ query.polygon_area polygon) z (drop (c.loop-polygon.polygon + 1) polygons)) more
          ∙ sym (fold_rest (λ sum polygon. sum +ℤ query.polygon_area polygon) so_far polygons c.loop-polygon.polygon [] within)
          ∙ c.loop-polygon.invariant.whole;
      bound = omega (arith, ints, rest, small, c.feature.ensures.small, c.loop-polygon.invariant.bound, c.polygon_area-part.ensures.bound);
    }

pub returns-clause-area : goal.returns-clause-area
returns-clause-area g c =
    let polygons = (feature_at c.args.map.now.doc c.args.f).polygons in
    let long = c.polygon_count-polygon-end.ensures ∙ length_shown c.args.map.now.doc c.args.f c.in-Some.feature (sym c.in-Some.is ∙ c.feature.ensures.shown) in
    let past : length polygons ≤ c.loop-polygon.polygon = omega (arith, long, c.loop-polygon-test.false) in
    sym (ap (fold (λ sum polygon. sum +ℤ query.polygon_area polygon) (to_z w128 c.loop-polygon.area-bits)) (drop_all c.loop-polygon.polygon polygons past))
    ∙ c.loop-polygon.invariant.whole

pub returns-clause-there : goal.returns-clause-there
returns-clause-there g c =
    let some : has_feature c.args.map.now.doc c.args.f ≡ true = is_shown c.args.map.now.doc c.args.f ∙ ap is_some (sym c.feature.ensures.shown ∙ c.in-Some.is) in
    (λ h. some, λ h. refl)
