-- A document whose items are changed layer by layer.
use Rattle.kit_words.proofs.Common.{◌≡◌, Bool, true, false, refl, sym, ap, ap₂, ◌∙◌, ◌&&◌, List, [], ◌∷◌, ◌++◌, map}
use Rattle.kit_words.proofs.Common.{filter_map, flat_map, list_all, list_any, list_any-append, and_parts, or_parts}
use Rattle.ring_machine.specs.Common.{FeatureOf, ItemOf, LayerOf, DocumentOf, feature_of, features, in_layer, in_items}
use Rattle.ring_machine.specs.Common.{is_geometry}

-- the features of these layers
abbrev pub of_layers : {R : Type 0} → List (LayerOf R) → List (FeatureOf R)
of_layers ls = flat_map (λ l. filter_map feature_of l.items) ls

-- what a change of items makes of features, it makes of the document's
module _ {R S : Type 0} (k : List (ItemOf R) → List (ItemOf S))
    (h : List (FeatureOf R) → List (FeatureOf S)) (none : h [] ≡ [])
    (joins : (xs ys : List (FeatureOf R)) → h (xs ++ ys) ≡ h xs ++ h ys)
    (on_items : (is : List (ItemOf R))
    → filter_map feature_of (k is) ≡ h (filter_map feature_of is)) where
  features-layers : (ls : List (LayerOf R)) → of_layers (map (in_layer k) ls) ≡ h (of_layers ls)
  features-layers [] = sym none
  features-layers (l ∷ ls) =
      ap₂ (λ y z. y ++ z) (on_items l.items) (features-layers ls)
      ∙ sym (joins (filter_map feature_of l.items) (of_layers ls))

  pub features-in_items : (d : DocumentOf R) → features (in_items k d) ≡ h (features d)
  features-in_items d = features-layers d.layers

-- changes that agree on the items of each layer agree on the document
module _ {R S : Type 0} (k j : List (ItemOf R) → List (ItemOf S))
    (agree : (is : List (ItemOf R)) → k is ≡ j is) where
  layers-agree : (ls : List (LayerOf R)) → map (in_layer k) ls ≡ map (in_layer j) ls
  layers-agree [] = refl
  layers-agree (l ∷ ls) =
      ap₂ (λ y z. record { name = l.name; items = y } ∷ z) (agree l.items) (layers-agree ls)

  pub in_items-agree : (d : DocumentOf R) → in_items k d ≡ in_items j d
  in_items-agree d =
      ap (λ z. record { transform = d.transform; layers = z; members = d.members }) (layers-agree d.layers)

-- a change that leaves items of which no feature passes a test leaves such a document
module _ {R : Type 0} (k : List (ItemOf R) → List (ItemOf R)) (test : FeatureOf R → Bool)
    (leaves : (is : List (ItemOf R)) → list_any test (filter_map feature_of is) ≡ false
    → k is ≡ is) where
  layers-left : (ls : List (LayerOf R)) → list_any test (of_layers ls) ≡ false
      → map (in_layer k) ls ≡ ls
  layers-left [] h = refl
  layers-left (l ∷ ls) h =
      let h' = or_parts (list_any test (filter_map feature_of l.items)) (list_any test (of_layers ls)) (sym (list_any-append test (filter_map feature_of l.items) (of_layers ls)) ∙ h) in
      ap₂ (λ y z. record { name = l.name; items = y } ∷ z) (leaves l.items h'.0) (layers-left ls h'.1)

  pub in_items-left : (d : DocumentOf R) → list_any test (features d) ≡ false → in_items k d ≡ d
  in_items-left d h =
      ap (λ z. record { transform = d.transform; layers = z; members = d.members }) (layers-left d.layers h)

-- two changes in either order
module _ {R S T U : Type 0} (k : List (ItemOf S) → List (ItemOf U))
    (j : List (ItemOf R) → List (ItemOf S)) (j' : List (ItemOf T) → List (ItemOf U))
    (k' : List (ItemOf R) → List (ItemOf T))
    (square : (is : List (ItemOf R)) → k (j is) ≡ j' (k' is)) where
  layers-square : (ls : List (LayerOf R))
      → map (in_layer k) (map (in_layer j) ls) ≡ map (in_layer j') (map (in_layer k') ls)
  layers-square [] = refl
  layers-square (l ∷ ls) =
      ap₂ (λ y z. record { name = l.name; items = y } ∷ z) (square l.items) (layers-square ls)

  pub in_items-square : (d : DocumentOf R) → in_items k (in_items j d) ≡ in_items j' (in_items k' d)
  in_items-square d =
      ap (λ z. record { transform = d.transform; layers = z; members = d.members }) (layers-square d.layers)

-- layers that are geometries and pass a test, where the change keeps geometries that pass
module _ {R S : Type 0} (k : List (ItemOf R) → List (ItemOf S)) (test : List (ItemOf R) → Bool)
    (keeps : (is : List (ItemOf R)) → is_geometry is ≡ true → test is ≡ true
    → is_geometry (k is) ≡ true) where
  pub geometries-in_items : (ls : List (LayerOf R)) → list_all (λ l. is_geometry l.items) ls ≡ true
      → list_all (λ l. test l.items) ls ≡ true
      → list_all (λ l. is_geometry l.items) (map (in_layer k) ls) ≡ true
  geometries-in_items [] g t = refl
  geometries-in_items (l ∷ ls) g t =
      let g' = and_parts (is_geometry l.items) (list_all (λ l. is_geometry l.items) ls) g in
      let t' = and_parts (test l.items) (list_all (λ l. test l.items) ls) t in
      ap₂ (λ y z. y && z) (keeps l.items g'.0 t'.0) (geometries-in_items ls g'.1 t'.1)
