-- The layers of a frame as places in which its features stand.
use Rattle.kit_words.proofs.Common.{◌≡◌, ℕ, zero, suc, Bool, true, false, refl, sym, ap, ap₂, ◌∙◌, List, [], ◌∷◌, ◌++◌}
use Rattle.kit_words.proofs.Common.{◌&&◌, map, Option, Some, None, option_map, cond, slice_get, ◌==◌, flat_map}
use Rattle.kit_words.proofs.Common.{filter_map, list_all, list_any, find, cons_option, false≢true, flat_map-append}
use Rattle.kit_words.proofs.Common.{filter_map-append, and_parts}
use Rattle.ring_machine.specs.Common.{FeatureOf, ItemOf, feature_of, features, feature, is_inner, is_geometry}
use Rattle.ring_machine.proofs.Common.{In, among, of_layers, mapped_there}
use Rattle.edit_records.specs.Common.{Place, Number, Tree, LayerTree, AreFormed, is_formed, number_of, numbers_of}
use Rattle.edit_records.specs.Common.{numbers_placed, leaf, or_empty, item_at, filled, has_place}
use Rattle.edit_records.specs.Places as tree
use Rattle.edit_records.proofs.Common.{found-filled}
use Rattle.map_frame.specs.Common.{Feature, Slot, Geometry, Layer, Tables, is_closing, is_whole, is_enclosed}
use Rattle.map_frame.specs.Common.{numbers_at, numbers_in, all_numbers, live, view_feature, view_layer, leaf_of}
use Rattle.map_frame.specs.Common.{items_at, items_of, places_at, tree_of, places_of, doc_of}
use Rattle.map_frame.specs.declared.tables.Slot.TheVariants as slot
use Rattle.map_frame.specs.declared.tables.Geometry.TheVariants as geometry

module _ {A : Type 0} (fs : List (Option (Feature A))) where
  -- the feature with this number, as it is seen
  abbrev pub entry : ℕ → Option (FeatureOf ℕ)
  entry n = option_map (view_feature n) (live fs n)

  pub entry_number : (n : ℕ) (f : FeatureOf ℕ) → entry n ≡ Some f → f.number ≡ n
  entry_number n f e =
      let x = mapped_there (view_feature n) (live fs n) f e in ap (λ (z : FeatureOf ℕ). z.number) (sym x.2)

  -- a feature stands at the place of its number
  pub leaf_filled : (n : ℕ) → leaf_of fs n ≡ leaf (entry n)
  leaf_filled n = by (slice_get fs n) refl
    where
      by : (o : Option (Option (Feature A))) → slice_get fs n ≡ o → leaf_of fs n ≡ leaf (entry n)
      by (Some (Some f)) e = rw e refl
      by _ e = rw e refl

  leaves_filled : (ns : List ℕ) → flat_map (leaf_of fs) ns ≡ flat_map (item_at entry) (map Number ns)
  leaves_filled [] = refl
  leaves_filled (n ∷ ns) = ap₂ (λ y z. y ++ z) (leaf_filled n) (leaves_filled ns)

  slot_filled : (s : Slot A) → items_at fs s ≡ flat_map (item_at entry) (places_at s)
  slot_filled (slot.Open h) = refl
  slot_filled slot.Close = refl
  slot_filled (slot.Kept t) = refl
  slot_filled (slot.Leaves ns) = leaves_filled ns.items

  pub slots_filled : (ss : List (Slot A)) → flat_map (items_at fs) ss ≡ flat_map (item_at entry) (flat_map places_at ss)
  slots_filled [] = refl
  slots_filled (s ∷ ss) =
      ap₂ (λ y z. y ++ z) (slot_filled s) (slots_filled ss)
      ∙ sym (flat_map-append (item_at entry) (places_at s) (flat_map places_at ss))

  geometry_filled : (g : Geometry A) → items_of fs g ≡ tree.items_of entry (tree_of g)
  geometry_filled (geometry.Alone n) = ap or_empty (leaf_filled n)
  geometry_filled (geometry.Items ss) = slots_filled ss.items

  -- the features of the table stand at the places of their numbers
  pub layers_filled : (ls : List (Layer A)) → map (view_layer fs) ls ≡ filled entry (places_of ls)
  layers_filled [] = refl
  layers_filled (l ∷ ls) =
      ap₂ (λ y z. record { name = l.name.now; items = y } ∷ z) (geometry_filled l.geometry) (layers_filled ls)

  -- ---- whatever features are there, a layer is a geometry

  leaves_inner : (n : ℕ) (ns : List ℕ) (is : List (ItemOf ℕ)) → is_inner (suc n) is ≡ true
      → is_inner (suc n) (flat_map (leaf_of fs) ns ++ is) ≡ true
  leaves_inner n [] is h = h
  leaves_inner n (m ∷ ns) is h = by (slice_get fs m) refl (leaves_inner n ns is h)
    where
      by : (o : Option (Option (Feature A))) → slice_get fs m ≡ o
          → is_inner (suc n) (flat_map (leaf_of fs) ns ++ is) ≡ true
          → is_inner (suc n) ((leaf_of fs m ++ flat_map (leaf_of fs) ns) ++ is) ≡ true
      by (Some (Some f)) e rest = rw e rest
      by _ e rest = rw e rest

  pub closing_inner : (n : ℕ) (ss : List (Slot A)) → is_closing n ss ≡ true → is_inner n (flat_map (items_at fs) ss) ≡ true
  closing_inner zero [] h = refl
  closing_inner (suc n) (slot.Open o ∷ ss) h = closing_inner (suc (suc n)) ss h
  closing_inner (suc n) (slot.Close ∷ ss) h = closing_inner n ss h
  closing_inner (suc n) (slot.Kept t ∷ ss) h = closing_inner (suc n) ss h
  closing_inner (suc n) (slot.Leaves ns ∷ ss) h =
      leaves_inner n ns.items (flat_map (items_at fs) ss) (closing_inner (suc n) ss h)
  closing_inner _ _ h = absurd (false≢true h)

  whole_geometry : (ss : List (Slot A)) → is_whole ss ≡ true → is_geometry (flat_map (items_at fs) ss) ≡ true
  whole_geometry (slot.Open o ∷ ss) h = closing_inner 1 ss h
  whole_geometry (slot.Kept t ∷ ss) h = closing_inner 0 ss h
  whole_geometry _ h = absurd (false≢true h)

  alone_geometry : (n : ℕ) → is_geometry (or_empty (leaf_of fs n)) ≡ true
  alone_geometry n = ap (λ z. is_geometry (or_empty z)) (leaf_filled n) ∙ by (entry n)
    where
      by : (o : Option (FeatureOf ℕ)) → is_geometry (or_empty (leaf o)) ≡ true
      by None = refl
      by (Some f) = refl

  enclosed_geometry : (g : Geometry A) → is_enclosed g ≡ true → is_geometry (items_of fs g) ≡ true
  enclosed_geometry (geometry.Alone n) h = alone_geometry n
  enclosed_geometry (geometry.Items ss) h = whole_geometry ss.items h

  pub layers_geometries : (ls : List (Layer A)) → list_all (λ l. is_enclosed l.geometry) ls ≡ true
      → list_all (λ l. is_geometry l.items) (map (view_layer fs) ls) ≡ true
  layers_geometries [] h = refl
  layers_geometries (l ∷ ls) h =
      let b = and_parts (is_enclosed l.geometry) (list_all (λ l. is_enclosed l.geometry) ls) h in
      ap₂ (λ y z. y && z) (enclosed_geometry l.geometry b.0) (layers_geometries ls b.1)

-- ---- the numbers that have a place

leaves_placed : (ns : List ℕ) → flat_map number_of (map Number ns) ≡ ns
leaves_placed [] = refl
leaves_placed (n ∷ ns) = ap (λ z. n ∷ z) (leaves_placed ns)

module _ {A : Type 0} where
  pub slot_placed : (s : Slot A) → flat_map number_of (places_at s) ≡ numbers_at s
  slot_placed (slot.Open h) = refl
  slot_placed slot.Close = refl
  slot_placed (slot.Kept t) = refl
  slot_placed (slot.Leaves ns) = leaves_placed ns.items

  slots_placed : (ss : List (Slot A)) → flat_map number_of (flat_map places_at ss) ≡ flat_map numbers_at ss
  slots_placed [] = refl
  slots_placed (s ∷ ss) =
      flat_map-append number_of (places_at s) (flat_map places_at ss)
      ∙ ap₂ (λ y z. y ++ z) (slot_placed s) (slots_placed ss)

  pub geometry_placed : (g : Geometry A) → numbers_of (tree_of g) ≡ numbers_in g
  geometry_placed (geometry.Alone n) = refl
  geometry_placed (geometry.Items ss) = slots_placed ss.items

  -- they are the numbers in the layers
  pub layers_placed : (ls : List (Layer A)) → numbers_placed (places_of ls) ≡ all_numbers ls
  layers_placed [] = refl
  layers_placed (l ∷ ls) = ap₂ (λ y z. y ++ z) (geometry_placed l.geometry) (layers_placed ls)

  -- ---- how a layer begins

  whole_formed : (ss : List (Slot A)) → is_whole ss ≡ true → is_formed (tree.Places (flat_map places_at ss)) ≡ true
  whole_formed (slot.Open o ∷ ss) h = refl
  whole_formed (slot.Kept t ∷ ss) h = refl
  whole_formed _ h = absurd (false≢true h)

  geometry_formed : (g : Geometry A) → is_enclosed g ≡ true → is_formed (tree_of g) ≡ true
  geometry_formed (geometry.Alone n) h = refl
  geometry_formed (geometry.Items ss) h = whole_formed ss.items h

  pub layers_formed : (ls : List (Layer A)) → list_all (λ l. is_enclosed l.geometry) ls ≡ true → AreFormed (places_of ls)
  layers_formed [] h = refl
  layers_formed (l ∷ ls) h =
      let b = and_parts (is_enclosed l.geometry) (list_all (λ l. is_enclosed l.geometry) ls) h in
      ap₂ (λ y z. y && z) (geometry_formed l.geometry b.0) (layers_formed ls b.1)

-- ---- the features in the order of their places

module _ {R : Type 0} (k : ℕ → Option (FeatureOf R)) where
  items_features : (ps : List Place)
      → filter_map feature_of (flat_map (item_at k) ps) ≡ filter_map k (flat_map number_of ps)
  items_features [] = refl
  items_features (Number n ∷ ps) = by (k n) (items_features ps)
    where
      by : (o : Option (FeatureOf R))
          → filter_map feature_of (flat_map (item_at k) ps) ≡ filter_map k (flat_map number_of ps)
          → filter_map feature_of (leaf o ++ flat_map (item_at k) ps) ≡ cons_option o (filter_map k (flat_map number_of ps))
      by None e = e
      by (Some f) e = ap (λ z. f ∷ z) e
  items_features (p ∷ ps) = items_features ps

  tree_features : (t : Tree) → filter_map feature_of (tree.items_of k t) ≡ filter_map k (numbers_of t)
  tree_features (tree.Places ps) = items_features ps
  tree_features (tree.Alone n) = by (k n)
    where
      by : (o : Option (FeatureOf R)) → filter_map feature_of (or_empty (leaf o)) ≡ cons_option o []
      by None = refl
      by (Some f) = refl

  filled_features : (ls : List LayerTree) → of_layers (filled k ls) ≡ filter_map k (numbers_placed ls)
  filled_features [] = refl
  filled_features (l ∷ ls) =
      ap₂ (λ y z. y ++ z) (tree_features l.tree) (filled_features ls)
      ∙ sym (filter_map-append k (numbers_of l.tree) (numbers_placed ls))

module _ {A : Type 0} (t : Tables A) where
  abbrev fs : List (Option (Feature A))
  fs = t.features.items

  -- the features of a frame
  pub features_of : features (doc_of t) ≡ filter_map (entry fs) (all_numbers t.layers.items)
  features_of =
      ap of_layers (layers_filled fs t.layers.items)
      ∙ filled_features (entry fs) (places_of t.layers.items)
      ∙ ap (filter_map (entry fs)) (layers_placed t.layers.items)

  -- the feature with a number, where each feature of the table stands in a layer
  pub feature_of_frame : (n : ℕ) → ((x : FeatureOf ℕ) → entry fs n ≡ Some x → In n (all_numbers t.layers.items))
      → feature (doc_of t) n ≡ entry fs n
  feature_of_frame n standing =
      ap (λ ls. find (λ f. f.number == n) (of_layers ls)) (layers_filled fs t.layers.items)
      ∙ found-filled (entry fs) (entry_number fs) n (places_of t.layers.items)
      ∙ by (entry fs n) (has_place (places_of t.layers.items) n)
      (λ x e. ap (list_any (λ m. m == n)) (layers_placed t.layers.items) ∙ among n (all_numbers t.layers.items) (standing x e))
    where
      by : (o : Option (FeatureOf ℕ)) (b : Bool) → ((x : FeatureOf ℕ) → o ≡ Some x → b ≡ true) → cond b o None ≡ o
      by o true h = refl
      by None false h = refl
      by (Some x) false h = absurd (false≢true (h x refl))
