-- Which features are themselves the geometry of a layer.
use Rattle.kit_words.proofs.Common.{◌≡◌, ℕ, refl, sym, ap, ◌∙◌, subst, List, [], ◌∷◌, inl, inr, Bool, true, false}
use Rattle.kit_words.proofs.Common.{Option, Some, None, option_map, Vec, false≢true, Decides-eqb, none-some, same_Some}
use Rattle.kit_words.proofs.Common.{slice_get-map}
use Rattle.std.specs.List.{slice_get}
use Rattle.ring_machine.specs.Common.{is_layer}
use Rattle.ring_machine.proofs.Common.{In, any_in, in_mapped, all_in, alone, is_layer_is, layer_is, slice-in}
use Rattle.edit_records.specs.Common.{or_empty}
use Rattle.map_frame.specs.Common.{Feature, Stand, Slot, Geometry, Layer, Tables, IsFramed, is_enclosed, numbers_in}
use Rattle.map_frame.specs.Common.{live, doc_of, items_of, leaf_of, view_feature, view_layer}
use Rattle.map_frame.specs.declared.tables.Slot.TheVariants as slot
use Rattle.map_frame.specs.declared.tables.Geometry.TheVariants as geometry
use Rattle.map_frame.proofs.NamedOnce.{one_part}
use Rattle.map_frame.proofs.NamedRoom.{of_in}
use Rattle.map_frame.proofs.ReadFeatures.{live_there, stands_in}

-- ---- layers that are one feature

module _ {A : Type 0} (fs : List (Option (Feature A))) where
  -- a geometry that is the leaf of a feature is that feature alone
  alone_only : (n : ℕ) (g : Geometry A) → is_enclosed g ≡ true → alone n (items_of fs g) ≡ true
      → (f : Feature A) × (live fs n ≡ Some f) × (g ≡ geometry.Alone n)
  alone_only n (geometry.Alone m) k h = by (slice_get fs m) refl
    where
      by : (o : Option (Option (Feature A))) → slice_get fs m ≡ o
          → (f : Feature A) × (live fs n ≡ Some f) × ◌≡◌ {A = Geometry A} (geometry.Alone m) (geometry.Alone n)
      by (Some (Some f)) e =
          let same : m ≡ n = (Decides-eqb m n).0 (rw e at h) in
          (f, ap (live fs) (sym same) ∙ rw e refl, ap {B = Geometry A} (λ z. geometry.Alone z) same)
      by _ e = absurd (false≢true (rw e at h))
  alone_only n (geometry.Items slots) k h = absurd (by slots.items refl)
    where
      by : (ss : List (Slot A)) → slots.items ≡ ss → ⊥
      by (slot.Open head ∷ ss) e = false≢true (rw e at h)
      by (slot.Kept t ∷ ss) e = false≢true (rw e at h)
      by _ e = false≢true (rw e at k)

-- ---- the features of a frame that are alone

absent : (b : Bool) → (b ≡ true → ⊥) → false ≡ b
absent true h = absurd (h refl)
absent false h = refl

module _ {A : Type 0} (t : Tables A) (k : IsFramed t) (n : ℕ) where
  abbrev fs : List (Option (Feature A))
  fs = t.features.items

  -- the layer that is the feature
  layer_there : is_layer (doc_of t) n ≡ true
      → (l : Layer A) × In l t.layers.items × (l.geometry ≡ geometry.Alone n) × (f : Feature A) × (live fs n ≡ Some f)
  layer_there h =
      let a = any_in (λ l. alone n l.items) (doc_of t).layers (sym (is_layer_is n (doc_of t)) ∙ h) in
      let m = in_mapped (view_layer fs) a.0 t.layers.items a.1 in
      let o = alone_only fs n m.0.geometry
      (all_in (λ l. is_enclosed l.geometry) t.layers.items m.0 k.enclosed m.1)
      (ap (λ l. alone n l.items) m.2 ∙ a.2) in
      (m.0, m.1, o.2, o.0, o.1)

  -- where there is no such feature none is alone
  pub none_alone : live fs n ≡ None → false ≡ is_layer (doc_of t) n
  none_alone e = absent (is_layer (doc_of t) n) (λ h. let a = layer_there h in none-some a.3 (sym e ∙ a.4))

  -- the layer in which it is said to stand is there
  pub in_some_layer : (s : Stand) → slice_get t.stands.items n ≡ Some s → slice_get t.layers.items s.layer ≡ None → ⊥
  in_some_layer s at e = let i = stands_in t.layers.items n s (k.standing n s at) in none-some i.0 (sym e ∙ i.1)

  module _ (f : Feature A) (there : live fs n ≡ Some f) (s : Stand) (at : slice_get t.stands.items n ≡ Some s) where
    module _ (l : Layer A) (in_layer : slice_get t.layers.items s.layer ≡ Some l) where
      -- the layer in which it is said to stand holds it
      stands_there : In n (numbers_in l.geometry)
      stands_there =
          let i = stands_in t.layers.items n s (k.standing n s at) in
          subst (λ z. In n (numbers_in z.geometry)) (same_Some i.0 l (sym i.1 ∙ in_layer)) i.2

      -- a feature that its layer says is alone
      pub is_alone : (m : ℕ) → l.geometry ≡ geometry.Alone m → true ≡ is_layer (doc_of t) n
      is_alone m g =
          let own : m ≡ n = only (subst (λ z. In n (numbers_in z)) g stands_there) in
          let i = slice_get-map (view_layer fs) t.layers.items s.layer ∙ ap (option_map (view_layer fs)) in_layer in
          sym (layer_is n (doc_of t) (view_layer fs l) (view_feature n f)
          (slice-in (doc_of t).layers s.layer (view_layer fs l) i)
          (ap (items_of fs) g ∙ ap (λ i. or_empty (leaf_of fs i)) own ∙ rw (live_there fs n f there) refl) refl)
        where
          only : In n (m ∷ []) → m ≡ n
          only (inl q) = q
          only (inr i) = absurd i

      -- and one that stands among items
      pub not_alone : (ss : Vec (Slot A) A) → l.geometry ≡ geometry.Items ss → false ≡ is_layer (doc_of t) n
      not_alone ss g = absent (is_layer (doc_of t) n) (λ h.
          let a = layer_there h in
          let i = of_in t.layers.items a.0 a.1 in
          let same = one_part (λ (z : Layer A). numbers_in z.geometry) t.layers.items k.once s.layer i.0 l a.0 n
          in_layer i.1 stands_there (subst (λ z. In n (numbers_in z)) (sym a.2) (inl refl)) in
          let one : l ≡ a.0 = same_Some l a.0 (sym in_layer ∙ ap (slice_get t.layers.items) same ∙ i.1) in
          differ (sym g ∙ ap (λ (z : Layer A). z.geometry) one ∙ a.2))
        where
          differ : ◌≡◌ {A = Geometry A} (geometry.Items ss) (geometry.Alone n) → ⊥
          differ e = absurd cc
