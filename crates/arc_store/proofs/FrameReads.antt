-- What is read of a frame is what its document shows once rings stand in the place of their numbers.
use Rattle.kit_words.proofs.Common.{◌≡◌, ℕ, refl, sym, ap, ap₂, ◌∙◌, List, [], ◌∷◌, length, map, Option, Some, None}
use Rattle.kit_words.proofs.Common.{option_map, is_some, slice_get, length-map, slice_get-map}
use Rattle.ring_machine.specs.Common.{FeatureOf, ItemOf, Open, Close, Leaf, Kept, LayerOf, DocumentOf, features}
use Rattle.ring_machine.specs.Common.{feature, has_feature, in_feature, in_item, in_layer, in_rings}
use Rattle.ring_machine.proofs.Common.{feature-in_rings, has_feature-found, is_some-mapped, features-in_rings}
use Rattle.map_frame.specs.Common.{Opens, Closes, Stands, Keeps, shown, shown_item, shown_layer, shown_frame, element}
use Rattle.map_frame.specs.Common.{frame_ring}

module _ {R S : Type 0} (g : R → S) where
  -- ---- layers

  items_alike : (is : List (ItemOf R)) → map shown_item (map (in_item (in_feature g)) is) ≡ map shown_item is
  items_alike [] = refl
  items_alike (Open h ∷ is) = ap (λ z. Opens h ∷ z) (items_alike is)
  items_alike (Close ∷ is) = ap (λ z. Closes ∷ z) (items_alike is)
  items_alike (Leaf f ∷ is) = ap (λ z. Stands f.number ∷ z) (items_alike is)
  items_alike (Kept t ∷ is) = ap (λ z. Keeps t ∷ z) (items_alike is)

  layers_alike : (ls : List (LayerOf R))
      → map shown_layer (map (in_layer (map (in_item (in_feature g)))) ls) ≡ map shown_layer ls
  layers_alike [] = refl
  layers_alike (l ∷ ls) =
      ap₂ (λ y z. record { name = l.name; items = y } ∷ z) (items_alike l.items) (layers_alike ls)

  -- the same is shown beside the rings
  pub frame_shown : (d : DocumentOf R) → shown_frame (in_rings g d) ≡ shown_frame d
  frame_shown d = ap (λ z. record { transform = d.transform; layers = z; members = d.members }) (layers_alike d.layers)

  -- ---- features

  -- there are as many features
  pub feature_count-in_rings : (d : DocumentOf R) → length (features (in_rings g d)) ≡ length (features d)
  feature_count-in_rings d = ap length (features-in_rings g d) ∙ length-map (features d) (in_feature g)

  -- of the same numbers
  pub has_feature-in_rings : (d : DocumentOf R) (n : ℕ) → has_feature (in_rings g d) n ≡ has_feature d n
  has_feature-in_rings d n =
      has_feature-found (in_rings g d) n ∙ ap is_some (feature-in_rings g d n)
      ∙ is_some-mapped (in_feature g) (feature d n) ∙ sym (has_feature-found d n)

  lengths : (ps : List (List R)) → map length (map (map g) ps) ≡ map length ps
  lengths [] = refl
  lengths (p ∷ ps) = ap₂ (λ (y : ℕ) (z : List ℕ). y ∷ z) (length-map p g) (lengths ps)

  -- and the same is shown of it
  pub feature_shown : (d : DocumentOf R) (n : ℕ) → option_map shown (feature (in_rings g d) n) ≡ option_map shown (feature d n)
  feature_shown d n = ap (option_map shown) (feature-in_rings g d n) ∙ by (feature d n)
    where
      by : (o : Option (FeatureOf R)) → option_map shown (option_map (in_feature g) o) ≡ option_map shown o
      by None = refl
      by (Some f) = ap (λ (rings : List ℕ). Some (record (shown f) { rings = rings })) (lengths f.polygons)

  -- ---- rings

  in_element : (o : Option (List R)) (n : ℕ) → element (option_map (map g) o) n ≡ option_map g (element o n)
  in_element None n = refl
  in_element (Some xs) n = slice_get-map g xs n

  -- at each place stands the changed ring
  pub ring-in_rings : (d : DocumentOf R) (n polygon ring : ℕ)
      → frame_ring (in_rings g d) n polygon ring ≡ option_map g (frame_ring d n polygon ring)
  ring-in_rings d n polygon ring =
      ap (λ o. element (element (option_map (λ f. f.polygons) o) polygon) ring) (feature-in_rings g d n)
      ∙ by (feature d n)
    where
      by : (o : Option (FeatureOf R))
          → element (element (option_map (λ f. f.polygons) (option_map (in_feature g) o)) polygon) ring
          ≡ option_map g (element (element (option_map (λ f. f.polygons) o) polygon) ring)
      by None = refl
      by (Some f) =
          ap (λ o. element o ring) (slice_get-map (map g) f.polygons polygon)
          ∙ in_element (slice_get f.polygons polygon) ring
