-- A feature that is cut, as two features that come in the places of their numbers.
use Rattle.kit_words.proofs.Common.{◌≡◌, ◌<◌, ℕ, zero, suc, Bool, true, false, sym, ap, ap₂, ◌∙◌, subst, cond, List, []}
use Rattle.kit_words.proofs.Common.{◌∷◌, length, get_or, take, slice_set, Option, Some, arith, list_any, or_parts}
use Rattle.grid_geometry.specs.Common.{Position}
use Rattle.ring_machine.specs.Common.{Document, Feature, Text, Polygon, feature, Path, cut, stays, is_cut_by}
use Rattle.ring_machine.specs.Common.{first_that, change_first, first_polygon, second_polygon, feature_at, or_else}
use Rattle.ring_machine.specs.Common.{no_feature}
use Rattle.ring_machine.proofs.Common.{has_feature-found, there, new_feature}
use Rattle.edit_records.specs.Common.{LayerTree, grown, exchanged}
use Rattle.edit_records.proofs.Common.{cut-made, feature-own}
use Rattle.map_frame.specs.Common.{ArePlaced, texts_of, with_texts}
use Rattle.arc_store.specs.Common.{feature_with, part_of, IsCuttable, IsFirstCut}
use Rattle.arc_store.proofs.PlacedMap.{next_free}

module _ {A : Type 0} (test : A → Bool) where
  first_passes : (xs : List A) (x : A) → first_that test xs ≡ x ∷ [] → test x ≡ true
  first_passes [] x e = absurd cc
  first_passes (y ∷ ys) x e = grind (arith, first_passes ys x)

  -- the first one that passes is changed where it stands
  changed_at : (g : A → A) (xs : List A) (i : ℕ) (a : A) → i < length xs
      → list_any test (take i xs) ≡ false → test (get_or xs i a) ≡ true
      → change_first test g xs ≡ slice_set xs i (g (get_or xs i a))
  changed_at g [] i a l h k = absurd (omega (arith, l))
  changed_at g (x ∷ xs) zero a l h k = ap (λ b. cond b (g x ∷ xs) (x ∷ change_first test g xs)) k
  changed_at g (x ∷ xs) (suc i) a l h k =
      let h' = or_parts (test x) (list_any test (take i xs)) h in
      ap (λ b. cond b (g x ∷ xs) (x ∷ change_first test g xs)) h'.0
      ∙ ap (λ z. x ∷ z) (changed_at g xs i a (omega (arith, l)) h'.1 k)

-- what is asked for: both parts of feature n, cut in the polygon p at this place
abbrev pub both_parts : Document → ℕ → ℕ → Text → Path → ℕ → List (List Position) → List (ℕ × Option Feature)
both_parts d n new id path place p =
    (n, Some (feature_with d n (slice_set (feature_at d n).polygons place (first_polygon path p))))
    ∷ (new, Some (part_of d n new id (second_polygon path p))) ∷ []

module _ (trees : List LayerTree) (d : Document) (n new : ℕ) (id : Text) (path : Path) (place : ℕ)
    (p : List (List Position)) (placed : ArePlaced trees new d) (a : IsCuttable d n path)
    (c : IsFirstCut (feature_at d n).polygons path place p) where
  found : (f : Feature) × (feature d n ≡ Some f)
  found = there (feature d n) (sym (has_feature-found d n) ∙ a.there)

  at : feature_at d n ≡ found.0
  at = ap (or_else no_feature) found.1

  first_cut : IsFirstCut found.0.polygons path place p
  first_cut = subst (λ (f : Feature). IsFirstCut f.polygons path place p) at c

  here : change_first (is_cut_by path) (first_polygon path) found.0.polygons
      ≡ slice_set found.0.polygons place (first_polygon path p)
  here =
      let h = first_cut in
      changed_at (is_cut_by path) (first_polygon path) found.0.polygons place [] h.within h.none_before
      (ap (is_cut_by path) (sym h.at) ∙ first_passes (is_cut_by path) found.0.polygons p h.first)
      ∙ ap (λ q. slice_set found.0.polygons place (first_polygon path q)) (sym h.at)

  stays_is : stays path found.0 ≡ feature_with d n (slice_set (feature_at d n).polygons place (first_polygon path p))
  stays_is =
      ap₂ (λ m ps. with_texts m (texts_of found.0) ps) (feature-own d n found.0 found.1) here
      ∙ ap (λ (f : Feature). with_texts n (texts_of f) (slice_set f.polygons place (first_polygon path p))) (sym at)

  new_is : new_feature path new id found.0 p ≡ part_of d n new id (second_polygon path p)
  new_is =
      ap (λ (f : Feature). with_texts new (record (texts_of f) { id = Some id; form = Polygon }) (second_polygon path p ∷ [])) (sym at)

  pub split_made : exchanged (grown n new trees) (both_parts d n new id path place p) d ≡ cut d n id path new
  split_made =
      ap₂ (λ x y. exchanged (grown n new trees) ((n, Some x) ∷ (new, Some y) ∷ []) d) (sym stays_is) (sym new_is)
      ∙ sym (cut-made trees d n id path new found.0 p placed.fills found.1 first_cut.first a.inside (next_free trees new d placed))
