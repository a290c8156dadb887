-- What an accepted split gives: areas that add up.
use Rattle.kit_words.proofs.Common.{◌≡◌, ℕ, ◌+ℤ◌, Bool, true, false, refl, sym, ap, ap₂, ◌∙◌, List, [], ◌∷◌, ◌++◌}
use Rattle.kit_words.proofs.Common.{append_assoc, ◌||◌, None, arith, ◌==◌, nat_lt, list_any, list_all, flat_map, find}
use Rattle.kit_words.proofs.Common.{Decides-eqb, nat_tests, list_any-append, list_all-append, and_parts}
use Rattle.ring_machine.specs.Common.{is_ring, Document, Feature, Text, features, rings_of, WellFormed, Proper, Path}
use Rattle.ring_machine.specs.Common.{cut, stays, is_wrong_side, is_cut_by, first_that, area_of, first_of, feature_at}
use Rattle.ring_machine.specs.Common.{or_else, no_feature, split_refusals}
use Rattle.ring_machine.proofs.FirstThat.{find_it}
use Rattle.ring_machine.proofs.SplitFeatures.{features_area}
use Rattle.ring_machine.proofs.SplitDocuments.{SplitDocument, accepted_split, new_one, split-accepted}
use Rattle.ring_machine.proofs.SplitRings.{ends_differ}

-- every feature's number is below next
abbrev pub are_below : ℕ → List Feature → Bool
are_below next fs = list_all (λ f. nat_lt f.number next) fs

below_differs : (m next : ℕ) → nat_lt m next ≡ true → (m == next) ≡ false
below_differs m next h = grind (arith, nat_tests)

pub none_has : (next : ℕ) (fs : List Feature) → are_below next fs ≡ true
    → list_any (λ f. f.number == next) fs ≡ false
none_has next [] h = refl
none_has next (f ∷ fs) h =
    let h' = and_parts (nat_lt f.number next) (are_below next fs) h in
    ap₂ (λ a b. a || b) (below_differs f.number next h'.0) (none_has next fs h'.1)

-- a feature's rings are rings where all are
rings_pass : (before : List Feature) (f : Feature) (after : List Feature)
    → list_all is_ring (flat_map rings_of (before ++ f ∷ after)) ≡ true
    → list_all is_ring (rings_of f) ≡ true
rings_pass [] f after h = (and_parts _ _ (sym (list_all-append is_ring (rings_of f) (flat_map rings_of after)) ∙ h)).0
rings_pass (e ∷ before) f after h = rings_pass before f after (and_parts _ _ (sym (list_all-append is_ring (rings_of e) (flat_map rings_of (before ++ f ∷ after))) ∙ h)).1

module _ (d : Document) (next n : ℕ) (id : Text) (path : Path) (s : SplitDocument d next n id path) where
  abbrev new : Feature
  new = new_one d next n id path s

  -- what stays is found under the old number
  pub found_old : feature_at (cut d n id path next) n ≡ stays path s.old
  found_old =
      ap (λ z. or_else no_feature (find (λ f. f.number == n) z)) s.result
      ∙ ap (or_else no_feature) (find_it (λ f. f.number == n) s.before (stays path s.old) (new ∷ s.after) s.others ((Decides-eqb s.old.number n).1 s.number))

  -- and the new feature under the new one
  pub found_new : are_below next (features d) ≡ true → feature_at (cut d n id path next) next ≡ new
  found_new below =
      let parts = and_parts (are_below next s.before) (are_below next (s.old ∷ s.after)) (sym (list_all-append (λ f. nat_lt f.number next) s.before (s.old ∷ s.after)) ∙ ap (are_below next) (sym s.is) ∙ below) in
      let here = and_parts (nat_lt s.old.number next) (are_below next s.after) parts.1 in
      let lacking : list_any (λ f. f.number == next) (s.before ++ stays path s.old ∷ []) ≡ false =
      list_any-append (λ f. f.number == next) s.before (stays path s.old ∷ [])
      ∙ ap₂ (λ a b. a || b) (none_has next s.before parts.0) (ap (λ b. b || false) (below_differs s.old.number next here.0)) in
      ap (λ z. or_else no_feature (find (λ f. f.number == next) z)) (s.result ∙ sym (append_assoc s.before (stays path s.old ∷ []) (new ∷ s.after)))
      ∙ ap (or_else no_feature) (find_it (λ f. f.number == next) (s.before ++ stays path s.old ∷ []) new s.after lacking ((Decides-eqb next next).1 refl))

-- the areas of the two features add up to that of the feature that is cut
pub split_areas : (d : Document) (next n : ℕ) (id : Text) (path : Path) → WellFormed d → Proper d
    → are_below next (features d) ≡ true → first_of (split_refusals d next n id path) ≡ None →
    area_of (feature_at (cut d n id path next) n) +ℤ area_of (feature_at (cut d n id path next) next)
    ≡ area_of (feature_at d n)
split_areas d next n id path formed proper below h =
    let a = split-accepted d next n id path h in
    let s = accepted_split d next n id path formed h in
    ap₂ (λ f g. area_of f +ℤ area_of g) (found_old d next n id path s) (found_new d next n id path s below)
    ∙ features_area path next id s.old s.split
    (rings_pass s.before s.old s.after (ap (λ z. list_all is_ring (flat_map rings_of z)) (sym s.is) ∙ proper.are_rings))
    (ends_differ path a.distinct)
    (ap (λ f. list_any (is_wrong_side path) (first_that (is_cut_by path) f.polygons)) (sym s.found) ∙ a.sides)
    ∙ ap area_of (sym s.found)
