use Rattle.kit_words.proofs.Common.{◌≡◌, ◌*◌, ◌<◌, ◌≤◌, unsigned_abs, refl, sym, ap, ◌∙◌, subst, arith, length, All, to_z, of_z, w128, length-map}
use Rattle.std.specs.List.Sorted.{IsNonDecreasing}
use Rattle.layer_sides.specs.Seen.{border_seen, borders_seen}
use Rattle.layer_faces.specs.Common.{IsKind, IsOnce, features_of}
use Rattle.layer_faces.specs.Kept.{told_numbers}
use Rattle.layer_faces.proofs.Facing.{found_is}
use Rattle.layer_faces.proofs.Weighing.{area_fits}
use Rattle.layer_faces.proofs.faces.face_of.Goals as goal

pub returns-clause-found : goal.returns-clause-found
returns-clause-found g c =
    let borders = borders_seen c.args.borders.now in
    let owners = c.args.owners.now in
    let numbers = c.as_slice-numbers.result.now in
    let value = c.as_slice-numbers.ensures.value in
    let all = length-map c.args.borders.now border_seen in
    let r = c.area_of-twice_area.result in
    let long = ap length value in
    let same : to_z w128 (of_z w128 r) ≡ r = area_fits r (omega (arith, long, c.requires.few_sides, c.area_of-twice_area.ensures.bound)) in
    found_is borders owners _ numbers value
    (subst IsNonDecreasing (sym value) c.requires.ascending)
    (subst (λ ns. 0 < length ns) (sym value) c.requires.some)
    refl
    (subst (λ ns. All (λ a. a < 2 * length borders) ns) (sym value)
    (λ k d l. let h = c.requires.within k d l in omega (arith, h, all)))
    c.in_ok-holders.ensures
    (subst (λ hs. IsOnce (features_of owners (told_numbers borders hs numbers)) c.in_ok-features.features.items) c.as_slice.ensures.value c.in_ok-features.ensures)
    (same ∙ c.area_of-twice_area.ensures.value)
    (subst (λ z. unsigned_abs z ≤ 2000000000000000000000000 * length numbers) (sym same) c.area_of-twice_area.ensures.bound)
    c.border_length-border.ensures.value
    (subst (λ hs. IsKind hs c.in_ok-features.features.items c.in-Some.kind) c.as_slice-2.ensures.value
    (subst (λ fs. IsKind c.as_slice-2.result.now fs c.in-Some.kind) c.as_slice-3.ensures.value c.in-Some.ensures))
