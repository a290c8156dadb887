-- The rings of a document whose rings are changed in place.
use Rattle.kit_words.proofs.Common.{◌≡◌, refl, sym, ap, ap₂, ◌∙◌, List, [], ◌∷◌, ◌++◌, map, flat_map, filter_map}
use Rattle.kit_words.proofs.Common.{map-append}
use Rattle.ring_machine.specs.Common.{FeatureOf, ItemOf, LayerOf, DocumentOf, Open, Close, Leaf, Kept, feature_of}
use Rattle.ring_machine.specs.Common.{features, rings_of, rings, in_feature, in_item, in_layer, in_rings}

module _ {R S : Type 0} (g : R → S) where
  features-items : (is : List (ItemOf R))
      → filter_map feature_of (map (in_item (in_feature g)) is)
      ≡ map (in_feature g) (filter_map feature_of is)
  features-items [] = refl
  features-items (Leaf f ∷ is) = ap (λ z. in_feature g f ∷ z) (features-items is)
  features-items (Open h ∷ is) = features-items is
  features-items (Close ∷ is) = features-items is
  features-items (Kept t ∷ is) = features-items is

  abbrev of_layers : {T : Type 0} → List (LayerOf T) → List (FeatureOf T)
  of_layers ls = flat_map (λ l. filter_map feature_of l.items) ls

  features-layers : (ls : List (LayerOf R))
      → of_layers (map (in_layer (map (in_item (in_feature g)))) ls)
      ≡ map (in_feature g) (of_layers ls)
  features-layers [] = refl
  features-layers (l ∷ ls) =
      ap₂ (λ y z. y ++ z) (features-items l.items) (features-layers ls)
      ∙ sym (map-append (in_feature g) (filter_map feature_of l.items) (of_layers ls))

  polygons-rings : (ps : List (List R))
      → flat_map (λ p. p) (map (map g) ps) ≡ map g (flat_map (λ p. p) ps)
  polygons-rings [] = refl
  polygons-rings (p ∷ ps) = ap (λ z. map g p ++ z) (polygons-rings ps) ∙ sym (map-append g p (flat_map (λ q. q) ps))

  features-rings : (fs : List (FeatureOf R))
      → flat_map rings_of (map (in_feature g) fs) ≡ map g (flat_map rings_of fs)
  features-rings [] = refl
  features-rings (f ∷ fs) = ap₂ (λ y z. y ++ z) (polygons-rings f.polygons) (features-rings fs) ∙ sym (map-append g (rings_of f) (flat_map rings_of fs))

  -- each feature is the changed one
  pub features-in_rings : (d : DocumentOf R)
      → features (in_rings g d) ≡ map (in_feature g) (features d)
  features-in_rings d = features-layers d.layers

  -- each ring is the changed one
  pub rings-in_rings : (d : DocumentOf R) → rings (in_rings g d) ≡ map g (rings d)
  rings-in_rings d = ap (flat_map rings_of) (features-layers d.layers) ∙ features-rings (features d)
