-- A feature with its old id again.
use Rattle.kit_words.proofs.Common.{◌≡◌, ℕ, Bool, true, false, refl, sym, ap, ap₂, ◌∙◌, cond, List, [], ◌∷◌, map}
use Rattle.kit_words.proofs.Common.{Option, Some, inl, inr, eqb-true, ◌==◌, filter_map}
use Rattle.ring_machine.specs.Common.{Text, FeatureOf, ItemOf, LayerOf, DocumentOf, Open, Close, Leaf, Kept, renamed}
use Rattle.ring_machine.specs.Common.{feature_of, feature, features, in_item, in_layer, in_features, WellFormed}
use Rattle.ring_machine.proofs.Common.{In, in_left, in_right, feature_found, of_layers}
use Rattle.edit_records.specs.Common.{with_id}

module _ {R S : Type 0} (g : FeatureOf R → FeatureOf S) (h : FeatureOf S → FeatureOf R) where
  items_back : (is : List (ItemOf R))
      → ((f : FeatureOf R) → In f (filter_map feature_of is) → h (g f) ≡ f)
      → map (in_item h) (map (in_item g) is) ≡ is
  items_back [] a = refl
  items_back (Open x ∷ is) a = ap (λ z. Open x ∷ z) (items_back is a)
  items_back (Close ∷ is) a = ap (λ z. Close ∷ z) (items_back is a)
  items_back (Kept t ∷ is) a = ap (λ z. Kept t ∷ z) (items_back is a)
  items_back (Leaf f ∷ is) a =
      ap₂ (λ y z. Leaf y ∷ z) (a f (inl refl)) (items_back is (λ k i. a k (inr i)))

  layers_back : (ls : List (LayerOf R)) → ((f : FeatureOf R) → In f (of_layers ls) → h (g f) ≡ f)
      → map (in_layer (map (in_item h))) (map (in_layer (map (in_item g))) ls) ≡ ls
  layers_back [] a = refl
  layers_back (l ∷ ls) a =
      ap₂ (λ y z. record { name = l.name; items = y } ∷ z)
      (items_back l.items (λ f i. a f (in_left f (filter_map feature_of l.items) (of_layers ls) i)))
      (layers_back ls (λ f i. a f (in_right f (filter_map feature_of l.items) (of_layers ls) i)))

  -- what gives each feature again gives the document again
  pub in_features-back : (d : DocumentOf R) → ((f : FeatureOf R) → In f (features d) → h (g f) ≡ f)
      → in_features h (in_features g d) ≡ d
  in_features-back d a =
      ap (λ z. record { transform = d.transform; layers = z; members = d.members }) (layers_back d.layers a)

pub renamed-back : {R : Type 0} (d : DocumentOf R) (n : ℕ) (id : Text) (f : FeatureOf R) → WellFormed d
    → feature d n ≡ Some f → with_id (renamed d n id) n f.id ≡ d
renamed-back {R} d n id f formed at =
    in_features-back (λ (k : FeatureOf R). cond (k.number == n) (record k { id = Some id }) k)
    (λ (k : FeatureOf R). cond (k.number == n) (record k { id = f.id }) k) d each
  where
    each : (k : FeatureOf R) → In k (features d)
        → (let j : FeatureOf R = cond (k.number == n) (record k { id = Some id }) k in
        cond (j.number == n) (record j { id = f.id }) j) ≡ k
    each k i = by (k.number == n) refl
      where
        same : k.number ≡ n → Some k ≡ Some f
        same e = sym (feature_found d formed k n i e) ∙ at

        id_of : Some k ≡ Some f → f.id ≡ k.id
        id_of e = sym (ap (λ (o : Option (FeatureOf R)). by_id o) e)
          where
            by_id : Option (FeatureOf R) → Option Text
            by_id (Some x) = x.id
            by_id _ = k.id

        by : (b : Bool) → (k.number == n) ≡ b
            → (let j : FeatureOf R = cond b (record k { id = Some id }) k in
            cond (j.number == n) (record j { id = f.id }) j) ≡ k
        by true e =
            ap (λ b. cond b (record k { id = f.id }) (record k { id = Some id })) e
            ∙ ap (λ z. record k { id = z }) (id_of (same (eqb-true k.number n e)))
        by false e = ap (λ b. cond b (record k { id = f.id }) k) e
