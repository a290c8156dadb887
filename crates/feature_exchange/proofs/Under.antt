-- The numbers of the rings of a feature, among those of the document.
use Rattle.kit_words.proofs.Common.{◌≡◌, ℕ, true, refl, sym, ap, ◌∙◌, subst, List, [], ◌++◌, map, Option, Some, None}
use Rattle.kit_words.proofs.Common.{option_map, unwrap_or, Vec, flat_map, flat_map-map}
use Rattle.ring_machine.specs.Common.{FeatureOf, DocumentOf, features, feature, rings, rings_of, are_distinct}
use Rattle.ring_machine.specs.Common.{WellFormed}
use Rattle.ring_machine.proofs.Common.{In, distinct_parts, feature_in, feature_stands, feature_found, rings_at}
use Rattle.ring_machine.proofs.Common.{in-flat_map}
use Rattle.map_frame.specs.Common.{polygon_numbers}
use Rattle.map_frame.proofs.Common.{one_owner}
use Rattle.feature_exchange.specs.Common.{feature_polygons, rings_under}

module _ {R : Type 0} (d : DocumentOf R) (n : ℕ) where
  pub polygons_found : (f : FeatureOf R) → feature d n ≡ Some f → feature_polygons d n ≡ f.polygons
  polygons_found f e = ap (λ o. unwrap_or (option_map (λ (x : FeatureOf R). x.polygons) o) []) e

  pub polygons_none : feature d n ≡ None → feature_polygons d n ≡ []
  polygons_none e = ap (λ o. unwrap_or (option_map (λ (x : FeatureOf R). x.polygons) o) []) e

  pub under_found : (f : FeatureOf R) → feature d n ≡ Some f → rings_under d n ≡ rings_of f
  under_found f e = ap (flat_map (λ polygon. polygon)) (polygons_found f e)

  pub under_none : feature d n ≡ None → rings_under d n ≡ []
  under_none e = ap (flat_map (λ polygon. polygon)) (polygons_none e)

  -- a ring of the feature is one of the document
  pub under_in : (r : R) → In r (rings_under d n) → In r (rings d)
  under_in r i = by (feature d n) refl
    where
      by : (o : Option (FeatureOf R)) → feature d n ≡ o → In r (rings d)
      by None e = absurd (subst (In r) (under_none e) i)
      by (Some f) e =
          in-flat_map rings_of f r (features d) (feature_in d n f e).0 (subst (In r) (under_found f e) i)

-- the numbers that were read are those of the feature
pub numbers_read : {A : Type 0} (d : DocumentOf ℕ) (n : ℕ) (ps : List (Vec ℕ A))
    → Some (map polygon_numbers ps) ≡ option_map (λ (f : FeatureOf ℕ). f.polygons) (feature d n)
    → flat_map polygon_numbers ps ≡ rings_under d n
numbers_read d n ps e =
    sym (flat_map-map (λ polygon. polygon) polygon_numbers ps)
    ∙ ap (λ (o : Option (List (List ℕ))). flat_map (λ polygon. polygon) (unwrap_or o [])) e

-- ---- numbers that do not stand twice

module _ (d : DocumentOf ℕ) (formed : WellFormed d) (once : are_distinct (rings d) ≡ true) (n : ℕ) where
  pub under_distinct : are_distinct (rings_under d n) ≡ true
  under_distinct = by (feature d n) refl
    where
      by : (o : Option (FeatureOf ℕ)) → feature d n ≡ o → are_distinct (rings_under d n) ≡ true
      by None e = ap are_distinct (under_none d n e)
      by (Some f) e =
          let place = feature_stands d formed n f e in
          let us = flat_map rings_of place.us in
          let vs = flat_map rings_of place.vs in
          let all : are_distinct (us ++ (rings_of f ++ vs)) ≡ true =
          ap are_distinct (sym (rings_at d n (λ k. []) f place)) ∙ once in
          ap are_distinct (under_found d n f e)
          ∙ (distinct_parts (rings_of f) vs (distinct_parts us (rings_of f ++ vs) all).right).left

  -- another feature has none of them
  pub under_apart : (f : FeatureOf ℕ) → In f (features d) → (f.number ≡ n → ⊥) → (r : ℕ) → In r (rings_of f)
      → In r (rings_under d n) → ⊥
  under_apart f i other r j k = by (feature d n) refl
    where
      by : (o : Option (FeatureOf ℕ)) → feature d n ≡ o → ⊥
      by None e = subst (In r) (under_none d n e) k
      by (Some h) e =
          other (one_owner d once f.number n f h r (feature_found d formed f f.number i refl) e j (subst (In r) (under_found d n h e) k))
