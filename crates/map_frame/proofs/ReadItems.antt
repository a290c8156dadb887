-- The layers of a frame as they are shown, and the items of one that are still to come.
use Rattle.kit_words.proofs.Common.{◌≡◌, ℕ, refl, sym, ap, ◌∙◌, List, [], ◌∷◌, map, true, false, Option, Some}
use Rattle.kit_words.proofs.Common.{option_map, is_some, flat_map, false≢true, slice_get-map}
use Rattle.std.specs.List.{slice_get}
use Rattle.ring_machine.specs.Common.{empty_collection}
use Rattle.map_frame.specs.Common.{Feature, Slot, Layer, Tables, live, ShownLayer, ShownFrame, shown_frame, shown_item}
use Rattle.map_frame.specs.Common.{shown_layer, doc_of, items_at, items_of, view_layer, shown_rest}
use Rattle.map_frame.specs.declared.tables.Geometry.TheVariants as geometry

-- ---- layers

module _ {A : Type 0} (t : Tables A) (i : ℕ) where
  -- what is said of a layer that was read in the table
  pub layer_as : {Y : Type 0} (h : ShownLayer → Y) (o : Option (Layer A)) → slice_get t.layers.items i ≡ o
      → (d : ShownFrame) → shown_frame (doc_of t) ≡ d
      → option_map h (option_map shown_layer (option_map (view_layer t.features.items) o)) ≡ option_map h (slice_get d.layers i)
  layer_as h o e d is =
      ap (λ z. option_map h (option_map shown_layer (option_map (view_layer t.features.items) z))) (sym e)
      ∙ ap (λ z. option_map h (option_map shown_layer z)) (sym (slice_get-map (view_layer t.features.items) t.layers.items i))
      ∙ ap (option_map h) (sym (slice_get-map shown_layer (map (view_layer t.features.items) t.layers.items) i))
      ∙ ap (λ (z : ShownFrame). option_map h (slice_get z.layers i)) is

-- ---- items

module _ {A : Type 0} (fs : List (Option (Feature A))) where
  -- a feature alone is all of its layer
  pub alone_there : (n : ℕ) → is_some (live fs n) ≡ true
      → shown_rest fs (n ∷ []) [] ≡ map shown_item (items_of fs (geometry.Alone n))
  alone_there n h = by (slice_get fs n) refl
    where
      by : (o : Option (Option (Feature A))) → slice_get fs n ≡ o
          → shown_rest fs (n ∷ []) [] ≡ map shown_item (items_of fs (geometry.Alone n))
      by (Some (Some f)) e = rw e refl
      by _ e = absurd (false≢true (rw e at h))

  -- and where it was taken out there is an empty collection
  pub alone_gone : (n : ℕ) (ss : List (Slot A)) → is_some (live fs n) ≡ false
      → flat_map (items_at fs) ss ≡ empty_collection
      → shown_rest fs [] ss ≡ map shown_item (items_of fs (geometry.Alone n))
  alone_gone n ss h k = by (slice_get fs n) refl
    where
      by : (o : Option (Option (Feature A))) → slice_get fs n ≡ o
          → shown_rest fs [] ss ≡ map shown_item (items_of fs (geometry.Alone n))
      by (Some (Some f)) e = absurd (false≢true (sym (rw e at h)))
      by _ e = rw e (ap (map shown_item) k)
