-- A document with other features in the place of one.
use Rattle.kit_words.proofs.Common.{◌≡◌, ℕ, Bool, true, false, refl, ap, ap₂, ◌∙◌, subst, cond, List, [], ◌∷◌, ◌++◌}
use Rattle.kit_words.proofs.Common.{map, ◌⊎◌, inl, inr, ◌==◌, eqb-false, list_any, find, flat_map, filter_map}
use Rattle.kit_words.proofs.Common.{flat_map-append, filter_map-append, or_parts}
use Rattle.std.proofs.lemmas.Bool.{eqb-true}
use Rattle.ring_machine.specs.Common.{FeatureOf, ItemOf, DocumentOf, Open, Close, Leaf, Kept, feature_of, features}
use Rattle.ring_machine.specs.Common.{feature, has_feature, rings_of, rings, becomes, instead}
use Rattle.ring_machine.proofs.First.{In}
use Rattle.ring_machine.proofs.Members.{in_flat}
use Rattle.ring_machine.proofs.InItems.{features-in_items, in_items-left}
use Rattle.ring_machine.proofs.Found.{Stands, none_found}
use Rattle.ring_machine.proofs.Swapped.{for_one, swapped, swapped_alone, find_other}

pub features_leaves : {R : Type 0} (fs : List (FeatureOf R)) → filter_map feature_of (map Leaf fs) ≡ fs
features_leaves [] = refl
features_leaves (f ∷ fs) = ap (λ z. f ∷ z) (features_leaves fs)

module _ {R : Type 0} (n : ℕ) (g : FeatureOf R → List (FeatureOf R)) where
  -- ---- features

  pub features_becomes : (is : List (ItemOf R))
      → filter_map feature_of (flat_map (becomes n g) is) ≡ swapped n g (filter_map feature_of is)
  features_becomes [] = refl
  features_becomes (Open h ∷ is) = features_becomes is
  features_becomes (Close ∷ is) = features_becomes is
  features_becomes (Kept t ∷ is) = features_becomes is
  features_becomes (Leaf f ∷ is) =
      filter_map-append feature_of (becomes n g (Leaf f)) (flat_map (becomes n g) is)
      ∙ ap₂ (λ y z. y ++ z) (by (f.number == n)) (features_becomes is)
    where
      by : (b : Bool) → filter_map feature_of (cond b (map Leaf (g f)) (Leaf f ∷ []))
          ≡ cond b (g f) (f ∷ [])
      by true = features_leaves (g f)
      by false = refl

  -- the others stand in the place of the features of this number
  pub features-instead : (d : DocumentOf R) → features (instead n g d) ≡ swapped n g (features d)
  features-instead d =
      features-in_items (flat_map (becomes n g)) (swapped n g) refl (flat_map-append (for_one n g)) features_becomes d

  -- ---- where no feature has the number

  pub becomes_none : (is : List (ItemOf R))
      → list_any (λ f. f.number == n) (filter_map feature_of is) ≡ false
      → flat_map (becomes n g) is ≡ is
  becomes_none [] h = refl
  becomes_none (Open a ∷ is) h = ap (λ z. Open a ∷ z) (becomes_none is h)
  becomes_none (Close ∷ is) h = ap (λ z. Close ∷ z) (becomes_none is h)
  becomes_none (Kept t ∷ is) h = ap (λ z. Kept t ∷ z) (becomes_none is h)
  becomes_none (Leaf f ∷ is) h =
      let h' = or_parts (f.number == n) (list_any (λ k. k.number == n) (filter_map feature_of is)) h in
      ap₂ (λ b z. cond b (map Leaf (g f)) (Leaf f ∷ []) ++ z) h'.0 (becomes_none is h'.1)

  -- nothing changes
  pub instead_none : (d : DocumentOf R) → has_feature d n ≡ false → instead n g d ≡ d
  instead_none d h = in_items-left (flat_map (becomes n g)) (λ f. f.number == n) becomes_none d h

-- ---- where a feature comes from

module _ {R : Type 0} (n : ℕ) (g : FeatureOf R → List (FeatureOf R)) (d : DocumentOf R) where
  -- a feature of the changed document is an old one of another number, or a new one
  pub in-instead : (k : FeatureOf R) → In k (features (instead n g d))
      → (In k (features d) × (k.number ≡ n → ⊥)) ⊎ ((f : FeatureOf R) × In f (features d) × (f.number ≡ n) × In k (g f))
  in-instead k i =
      let from = in_flat (for_one n g) k (features d) (subst (In k) (features-instead n g d) i) in
      by from.0 (from.0.number == n) refl from.1 from.2
    where
      by : (f : FeatureOf R) (b : Bool) → (f.number == n) ≡ b → In f (features d) → In k (cond b (g f) (f ∷ []))
          → (In k (features d) × (k.number ≡ n → ⊥)) ⊎ ((f : FeatureOf R) × In f (features d) × (f.number ≡ n) × In k (g f))
      by f true e there j = inr (f, there, eqb-true f.number n e, j)
      by f false e there (inl s) =
          inl (
            subst (λ z. In z (features d)) s there,
            λ m. eqb-false f.number n e (ap (λ (z : FeatureOf R). z.number) s ∙ m),
          )
      by f false e there (inr j) = absurd j

-- ---- what is found

module _ {R : Type 0} (d : DocumentOf R) (n : ℕ) (g : FeatureOf R → List (FeatureOf R)) where
  -- another number is found as before, where the new features do not have it
  pub feature-instead_other : (m : ℕ) → (n == m) ≡ false
      → ((f : FeatureOf R) → In f (features d) → f.number ≡ n → list_any (λ k. k.number == m) (g f) ≡ false)
      → feature (instead n g d) m ≡ feature d m
  feature-instead_other m o h =
      ap (find (λ k. k.number == m)) (features-instead n g d)
      ∙ find_other n g m o (features d) (λ f i e. none_found (λ k. k.number == m) (g f) (h f i e))

  module _ (f : FeatureOf R) (place : Stands n f (features d)) where
    -- the features before it, the new ones, and those after it
    pub features-instead_at : features (instead n g d) ≡ place.us ++ (g f ++ place.vs)
    features-instead_at = features-instead n g d ∙ swapped_alone n g f (features d) place

    -- ---- rings

    -- the rings before it, its own, and those after it
    pub rings_at : rings d ≡ flat_map rings_of place.us ++ (rings_of f ++ flat_map rings_of place.vs)
    rings_at = ap (flat_map rings_of) place.is ∙ flat_map-append rings_of place.us (f ∷ place.vs)

    pub rings-instead_at : rings (instead n g d)
        ≡ flat_map rings_of place.us ++ (flat_map rings_of (g f) ++ flat_map rings_of place.vs)
    rings-instead_at =
        ap (flat_map rings_of) features-instead_at
        ∙ flat_map-append rings_of place.us (g f ++ place.vs)
        ∙ ap (λ z. flat_map rings_of place.us ++ z) (flat_map-append rings_of (g f) place.vs)
