use Rattle.kit_words.proofs.Common.{◌≡◌, ℕ, pos, ◌<◌, ◌≤◌, unsigned_abs, sym, ap, ◌∙◌, subst, arith, get_or, length, length-map, All}
use Rattle.ring_parts.specs.Seen.{polygons_seen, rings_seen}
use Rattle.layer_sides.specs.Seen.{border_seen, borders_seen}
use Rattle.layer_faces.specs.declared.face.Face.{Face}
use Rattle.layer_faces.specs.Areas.{total}
use Rattle.layer_faces.specs.Kept.{held_at}
use Rattle.layer_faces.specs.Weighed.{AreFaceSums, area_of_holder, area_of_holders, reach, told_beside_all}
use Rattle.layer_faces.proofs.Lifted.{faces_are, held_within, all_within, all_few, all_small, all_ascending, all_named, numbers_of_borders, uneven_is, sums_hold, sums_add_up}
use Rattle.layer_faces.proofs.looking.found_in.Goals as goal

pub faces_of-requires-clause-owned : goal.faces_of-requires-clause-owned
faces_of-requires-clause-owned g c =
    let borders = borders_seen c.args.borders.now in
    let layer = polygons_seen c.args.polygons.now in
    let long = length-map c.args.borders.now border_seen in
    λ a l. subst (λ k. All (λ n. n < k) (held_at borders a)) (length-map c.args.polygons.now (λ polygon. rings_seen polygon.items) ∙ sym c.requires.owned)
    (held_within layer borders c.args.owners.now c.requires.borders c.requires.held a (omega (arith, l, long)))

pub areas_by_faces-requires : goal.areas_by_faces-requires
areas_by_faces-requires g c =
    let borders = borders_seen c.args.borders.now in
    let layer = polygons_seen c.args.polygons.now in
    let faces = c.in_ok-faces.faces.items in
    let found = c.in_ok-faces.ensures.found in
    let all = numbers_of_borders c.args.borders.now faces c.in_ok-faces.ensures.all in
    let one = c.in_ok-faces.ensures.one_outside in
    let count = length-map c.args.polygons.now (λ polygon. rings_seen polygon.items) in
    let long = length-map c.args.borders.now border_seen in
    let few : length layer ≤ 4000000 = omega (arith, count, c.requires.few_polygons) in
    let few_borders : length borders ≤ 4000000 = omega (arith, long, c.requires.few_borders) in
    record {
      within = subst (λ fs. All (λ (f : Face _). All (λ n. n < length c.args.polygons.now) f.holders.items) fs) (sym c.as_slice.ensures.value)
          (subst (λ k. All (λ (f : Face _). All (λ n. n < k) f.holders.items) faces) count
          (all_within layer borders c.args.owners.now c.requires.borders c.requires.held faces found all one));
      few = subst (λ fs. All (λ (f : Face _). length f.holders.items ≤ 4000000) fs) (sym c.as_slice.ensures.value)
          (all_few layer borders c.args.owners.now c.requires.borders c.requires.held faces found all one few);
      small = subst (λ fs. reach fs ≤ 16000000000000000000000000000000) (sym c.as_slice.ensures.value)
          (all_small layer borders c.args.owners.now c.requires.borders c.requires.held faces found all one few_borders);
    }

pub uneven_in-requires-clause-small : goal.uneven_in-requires-clause-small
uneven_in-requires-clause-small g c =
    subst (λ zs. All (λ z. unsigned_abs z ≤ 64000000000000000000000000000000000000) zs) (sym c.as_slice-2.ensures.value) c.in_ok-areas.ensures.small

pub sums_of-sums-requires : goal.sums_of-sums-requires
sums_of-sums-requires g c =
    let borders = borders_seen c.args.borders.now in
    let layer = polygons_seen c.args.polygons.now in
    let faces = c.in_ok-faces.faces.items in
    let found = c.in_ok-faces.ensures.found in
    let all = numbers_of_borders c.args.borders.now faces c.in_ok-faces.ensures.all in
    let one = c.in_ok-faces.ensures.one_outside in
    let count = length-map c.args.polygons.now (λ polygon. rings_seen polygon.items) in
    let long = length-map c.args.borders.now border_seen in
    let few : length layer ≤ 4000000 = omega (arith, count, c.requires.few_polygons) in
    let few_borders : length borders ≤ 4000000 = omega (arith, long, c.requires.few_borders) in
    record {
      few = subst (λ fs. All (λ (f : Face _). length f.holders.items ≤ 4000000) fs) (sym c.as_slice-3.ensures.value)
          (all_few layer borders c.args.owners.now c.requires.borders c.requires.held faces found all one few);
      small = subst (λ fs. reach fs ≤ 16000000000000000000000000000000) (sym c.as_slice-3.ensures.value)
          (all_small layer borders c.args.owners.now c.requires.borders c.requires.held faces found all one few_borders);
    }

pub returns : goal.returns
returns g c =
    let borders = borders_seen c.args.borders.now in
    let layer = polygons_seen c.args.polygons.now in
    let faces = c.in_ok-faces.faces.items in
    let found = c.in_ok-faces.ensures.found in
    let all = numbers_of_borders c.args.borders.now faces c.in_ok-faces.ensures.all in
    let one = c.in_ok-faces.ensures.one_outside in
    let areas = c.in_ok-areas.areas.items in
    let s = c.sums_of-sums.result in
    let count : length areas ≡ length layer = c.in_ok-areas.ensures.count ∙ sym (length-map c.args.polygons.now (λ polygon. rings_seen polygon.items)) in
    let each : (n : ℕ) → get_or areas n (pos 0) ≡ area_of_holder faces n = λ n. c.in_ok-areas.ensures.each n ∙ ap (λ fs. area_of_holder fs n) c.as_slice.ensures.value in
    let sum : total (λ z. z) areas ≡ area_of_holders faces = c.in_ok-areas.ensures.sum ∙ ap area_of_holders c.as_slice.ensures.value in
    let sums : AreFaceSums faces s = subst (λ fs. AreFaceSums fs s) c.as_slice-3.ensures.value c.sums_of-sums.ensures in
    record {
      faces = faces_are layer borders c.args.owners.now c.requires.borders c.requires.held faces found all one;
      in_order = c.in_ok-faces.ensures.in_order;
      ascending = all_ascending borders c.args.owners.now faces found;
      named = all_named borders c.args.owners.now faces found;
      uneven = c.in_ok-uneven.ensures ∙ ap (told_beside_all 0 layer) c.as_slice-2.ensures.value
          ∙ uneven_is layer borders c.args.owners.now c.requires.borders c.requires.held faces found all one areas s count each sum sums;
      sums = sums_hold layer borders c.args.owners.now c.requires.borders c.requires.held faces found all one areas s count each sum sums;
      add_up = sums_add_up layer borders c.args.owners.now c.requires.borders c.requires.held faces found all one areas s count each sum sums;
    }
