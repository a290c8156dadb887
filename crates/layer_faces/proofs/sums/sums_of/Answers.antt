use Rattle.kit_words.proofs.Common.{List, ◌+◌, ◌+ℤ◌, ◌≤◌, unsigned_abs, neg_ℤ, arith, ints, sym, ap, ◌∙◌, take, take_all}
use Rattle.std.proofs.lemmas.List.Sums.{sum_by-take-le}
use Rattle.layer_faces.specs.declared.face.Face.{Face}
use Rattle.layer_faces.specs.Faces.{is_outside}
use Rattle.layer_faces.specs.Sums.{is_gap}
use Rattle.layer_faces.specs.Weighed.{area_of_kinds, is_land, reach}
use Rattle.layer_faces.proofs.Weighing.{added, all_fits, over_fits, added_near, taken, taken_near, kind_near, kinds_more, more_reach, reach_within}
use Rattle.layer_faces.proofs.sums.sums_of.Goals as goal

pub overflow_add-covered : goal.overflow_add-covered
overflow_add-covered g c =
    let f = c.face-item.result in
    let within = reach_within c.args.faces.now c.loop-face.face-index f c.loop-face-test.true c.face-item.is in
    let near = kind_near c.is_land.result f.twice_area c.area_if-covered.result c.area_if-covered.ensures in
    omega (arith, ints, within, near, c.requires.small, c.loop-face.invariant.covered_bound)

pub overflow_add-gaps : goal.overflow_add-gaps
overflow_add-gaps g c =
    let f = c.face-item.result in
    let within = reach_within c.args.faces.now c.loop-face.face-index f c.loop-face-test.true c.face-item.is in
    let near = kind_near c.is_gap.result f.twice_area c.area_if-gaps.result c.area_if-gaps.ensures in
    omega (arith, ints, within, near, c.requires.small, c.loop-face.invariant.gaps_bound)

pub overflow_sub-within : goal.overflow_sub-within
overflow_sub-within g c =
    let f = c.face-item.result in
    let within = reach_within c.args.faces.now c.loop-face.face-index f c.loop-face-test.true c.face-item.is in
    let near = kind_near c.is_outside.result f.twice_area c.area_if-within.result c.area_if-within.ensures in
    omega (arith, ints, within, near, c.requires.small, c.loop-face.invariant.within_bound)

pub loop-face-preserved : goal.loop-face-preserved
loop-face-preserved g c =
    let faces = c.args.faces.now in
    let i = c.loop-face.face-index in
    let f = c.face-item.result in
    let r = reach (take i faces) in
    let z = f.twice_area in
    let within = reach_within faces i f c.loop-face-test.true c.face-item.is in
    let small : r + unsigned_abs z ≤ 16000000000000000000000000000000 = omega (arith, within, c.requires.small) in
    let reached = more_reach faces i f c.loop-face-test.true c.face-item.is in
    let land = kinds_more faces i f c.loop-face-test.true c.face-item.is is_land c.is_land.result (sym c.is_land.ensures) ∙ ap (λ v. area_of_kinds is_land (take i faces) +ℤ v) (sym c.area_if-covered.ensures) in
    let gap = kinds_more faces i f c.loop-face-test.true c.face-item.is is_gap c.is_gap.result (sym c.is_gap.ensures) ∙ ap (λ v. area_of_kinds is_gap (take i faces) +ℤ v) (sym c.area_if-gaps.ensures) in
    let outside = kinds_more faces i f c.loop-face-test.true c.face-item.is is_outside c.is_outside.result (sym c.is_outside.ensures) ∙ ap (λ v. area_of_kinds is_outside (take i faces) +ℤ v) (sym c.area_if-within.ensures) in
    let near_land = kind_near c.is_land.result z c.area_if-covered.result c.area_if-covered.ensures in
    let near_gap = kind_near c.is_gap.result z c.area_if-gaps.result c.area_if-gaps.ensures in
    let near_outside = kind_near c.is_outside.result z c.area_if-within.result c.area_if-within.ensures in
    let inv = c.loop-face.invariant in
    record {
      covered = added _ c.area_if-covered.result z r near_land inv.covered_bound small _ _ inv.covered land;
      gaps = added _ c.area_if-gaps.result z r near_gap inv.gaps_bound small _ _ inv.gaps gap;
      within = taken _ c.area_if-within.result z r near_outside inv.within_bound small _ _ inv.within outside;
      covered_bound = added_near _ c.area_if-covered.result z r near_land inv.covered_bound small _ reached;
      gaps_bound = added_near _ c.area_if-gaps.result z r near_gap inv.gaps_bound small _ reached;
      within_bound = taken_near _ c.area_if-within.result z r near_outside inv.within_bound small _ reached;
    }

pub returns : goal.returns
returns g c =
    let all = take_all c.loop-face.face-index c.args.faces.now c.loop-face-test.false in
    let front = sum_by-take-le (λ (f : Face _). unsigned_abs f.twice_area) c.args.faces.now c.loop-face.face-index in
    let inv = c.loop-face.invariant in
    record {
      polygons = all_fits _ c.over_of-over.result (omega (arith, front, inv.covered_bound, c.requires.small)) c.over_of-over.ensures.bound;
      over = over_fits c.over_of-over.result c.over_of-over.ensures.bound ∙ c.over_of-over.ensures.value;
      covered = inv.covered ∙ ap (area_of_kinds is_land) all;
      gaps = inv.gaps ∙ ap (area_of_kinds is_gap) all;
      within = inv.within ∙ ap (λ (fs : List (Face _)). neg_ℤ (area_of_kinds is_outside fs)) all;
    }
