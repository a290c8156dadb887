-- A copy of a frame's tables means the same, and belongs together as they do.
use Rattle.kit_words.proofs.Common.{◌≡◌, ◌∙◌, ℕ, zero, suc, ◌<◌, ◌≤◌, refl, sym, ap, ap₂, subst, List, [], ◌∷◌, length}
use Rattle.kit_words.proofs.Common.{map, drop, Option, Some, None, option_map, Contains, Vec, slice_get, flat_map}
use Rattle.kit_words.proofs.Common.{list_all, AllZip, each_same, AllByRecursion, length-map, flat_map-map, list_all-map}
use Rattle.kit_words.proofs.Common.{slice_get-map}
use Rattle.std.specs.Vec.{vec_len}
use Rattle.ring_machine.specs.Common.{Text, Member, FeatureOf, LayerOf, DocumentOf, features, WellFormed, are_distinct}
use Rattle.topo_outline.proofs.Common.{copied_map}
use Rattle.topo_outline.specs.Common.{view_kept}
use Rattle.edit_records.specs.Common.{Places, LayerTree, number_of, numbers_placed, item_at, filled}
use Rattle.edit_records.proofs.Common.{filled-agree}
use Rattle.map_frame.specs.Common.{polygon_numbers, Feature, Stand, Slot, Geometry, Layer, Tables, slot_text}
use Rattle.map_frame.specs.Common.{geometry_text, layer_text, seen, AreCopied, Framed, all_numbers, numbers_under}
use Rattle.map_frame.specs.Common.{StandsAt, is_closing, is_whole, is_enclosed, IsFramed, live, AreNamed, view_feature}
use Rattle.map_frame.specs.Common.{view_layer, doc_of, framed, places_at, tree_of, layer_tree, places_of, with_texts}
use Rattle.map_frame.specs.declared.tables.Slot.TheVariants as slot
use Rattle.map_frame.specs.declared.tables.Geometry.TheVariants as geometry
use Rattle.map_frame.proofs.PlacesSeen.{entry, layers_filled, layers_placed, slots_filled, slot_placed}

-- ---- lists of numbers

module _ {A : Type 0} where
  -- one list of numbers is a copy of another
  abbrev pub SameLists : Vec ℕ A → Vec ℕ A → Type 0
  SameLists v w = AllZip (λ x y. y ≡ x) v.items w.items × (vec_len w ≡ vec_len v)

  pub lists_copied : (vs ws : List (Vec ℕ A)) → AllZip SameLists vs ws → map polygon_numbers ws ≡ map polygon_numbers vs
  lists_copied vs ws h = copied_map SameLists polygon_numbers (λ x y k. each_same x.items y.items k.0) vs ws h

module _ {X Y : Type 0} (Same : Option X → Option X → Type 0) (f : X → Y) (both : (x c : X) → Same (Some x) (Some c) → f c ≡ f x)
    (lost : (x : X) → Same (Some x) None → ⊥) (made : (c : X) → Same None (Some c) → ⊥) where
  option_copied : (o c : Option X) → Same o c → option_map f c ≡ option_map f o
  option_copied None None h = refl
  option_copied None (Some c) h = absurd (made c h)
  option_copied (Some x) None h = absurd (lost x h)
  option_copied (Some x) (Some c) h = ap Some (both x c h)

  -- what is there was copied, and what is missing is missing
  pub options_copied : (xs copies : List (Option X)) → AllZip Same xs copies → map (option_map f) copies ≡ map (option_map f) xs
  options_copied xs copies h = copied_map Same (option_map f) option_copied xs copies h

-- ---- what the texts and numbers mean

module _ {X Y T : Type 0} (f : X → T) (g : X → Y) (same : (x c : X) → f c ≡ f x → g c ≡ g x) where
  -- what is made of elements that are seen alike
  maps_same : (xs cs : List X) → map f cs ≡ map f xs → map g cs ≡ map g xs
  maps_same [] [] e = refl
  maps_same (x ∷ xs) (c ∷ cs) e =
      ap₂ (λ y ys. y ∷ ys) (same x c (let h : f c ≡ f x = cc in h)) (maps_same xs cs (ap (drop 1) e))
  maps_same _ _ e = absurd cc

-- the feature with this number
abbrev renumbered : ℕ → FeatureOf ℕ → FeatureOf ℕ
renumbered n f = record f { number = n }

module _ {A : Type 0} where
  places_same : (s c : Slot A) → slot_text c ≡ slot_text s → places_at c ≡ places_at s
  places_same (slot.Open h) (slot.Open k) e = cc
  places_same slot.Close slot.Close e = cc
  places_same (slot.Kept t) (slot.Kept u) e = cc
  places_same (slot.Leaves ns) (slot.Leaves ms) e = cc
  places_same _ _ e = absurd cc

  slots_same : (ss cs : List (Slot A)) → map slot_text cs ≡ map slot_text ss
      → flat_map places_at cs ≡ flat_map places_at ss
  slots_same ss cs e =
      sym (flat_map-map (λ ps. ps) places_at cs)
      ∙ ap (flat_map (λ ps. ps)) (maps_same slot_text places_at places_same ss cs e)
      ∙ flat_map-map (λ ps. ps) places_at ss

  closing_same : (n : ℕ) (ss cs : List (Slot A)) → map slot_text cs ≡ map slot_text ss → is_closing n cs ≡ is_closing n ss
  closing_same zero [] [] e = refl
  closing_same zero (s ∷ ss) (c ∷ cs) e = refl
  closing_same (suc n) [] [] e = refl
  closing_same (suc n) (slot.Open h ∷ ss) (slot.Open k ∷ cs) e = closing_same (suc (suc n)) ss cs (ap (drop 1) e)
  closing_same (suc n) (slot.Close ∷ ss) (slot.Close ∷ cs) e = closing_same n ss cs (ap (drop 1) e)
  closing_same (suc n) (slot.Kept t ∷ ss) (slot.Kept u ∷ cs) e = closing_same (suc n) ss cs (ap (drop 1) e)
  closing_same (suc n) (slot.Leaves ns ∷ ss) (slot.Leaves ms ∷ cs) e = closing_same (suc n) ss cs (ap (drop 1) e)
  closing_same _ _ _ e = absurd cc

  whole_same : (ss cs : List (Slot A)) → map slot_text cs ≡ map slot_text ss → is_whole cs ≡ is_whole ss
  whole_same [] [] e = refl
  whole_same (slot.Open h ∷ ss) (slot.Open k ∷ cs) e = closing_same 1 ss cs (ap (drop 1) e)
  whole_same (slot.Close ∷ ss) (slot.Close ∷ cs) e = refl
  whole_same (slot.Kept t ∷ ss) (slot.Kept u ∷ cs) e = closing_same 0 ss cs (ap (drop 1) e)
  whole_same (slot.Leaves ns ∷ ss) (slot.Leaves ms ∷ cs) e = refl
  whole_same _ _ e = absurd cc

  -- ---- layers

  tree_same : (g c : Geometry A) → geometry_text c ≡ geometry_text g
      → (tree_of c ≡ tree_of g) × (is_enclosed c ≡ is_enclosed g)
  tree_same (geometry.Alone n) (geometry.Alone m) e = (cc, refl)
  tree_same (geometry.Items ss) (geometry.Items cs) e =
      let same : map slot_text cs.items ≡ map slot_text ss.items = cc in
      (ap Places (slots_same ss.items cs.items same), whole_same ss.items cs.items same)
  tree_same _ _ e = absurd cc

  layer_same : (l c : Layer A) → layer_text c ≡ layer_text l
      → (layer_tree c ≡ layer_tree l) × (is_enclosed c.geometry ≡ is_enclosed l.geometry)
  layer_same l c e =
      let same = tree_same l.geometry c.geometry (ap (λ z. z.geometry) e) in
      (ap₂ (λ y z. record { name = y; tree = z }) (ap (λ z. z.name) e) same.0, same.1)

  -- the numbers at a place are those of its slot
  under_slot : (l c : Layer A) (ss cs : Vec (Slot A) A) (at : ℕ) → l.geometry ≡ geometry.Items ss
      → c.geometry ≡ geometry.Items cs → map slot_text cs.items ≡ map slot_text ss.items
      → numbers_under (Some c) at ≡ numbers_under (Some l) at
  under_slot l c ss cs at g h e =
      by (slice_get ss.items at) (slice_get cs.items at) refl refl
      (sym (slice_get-map slot_text cs.items at) ∙ ap (λ z. slice_get z at) e ∙ slice_get-map slot_text ss.items at)
    where
      by : (o u : Option (Slot A)) → slice_get ss.items at ≡ o → slice_get cs.items at ≡ u
          → option_map slot_text (slice_get cs.items at) ≡ option_map slot_text (slice_get ss.items at)
          → numbers_under (Some c) at ≡ numbers_under (Some l) at
      by None None p q k = rw (g, h, p, q) refl
      by (Some s) (Some z) p q k =
          let text : Some (slot_text z) ≡ Some (slot_text s) = rw (p, q) at k in
          rw (g, h, p, q) (sym (slot_placed z) ∙ ap (flat_map number_of) (places_same s z cc) ∙ slot_placed s)
      by _ _ p q k = let text = rw (p, q) at k in absurd cc

  under_same : (o u : Option (Layer A)) (at : ℕ) → option_map layer_text u ≡ option_map layer_text o
      → numbers_under u at ≡ numbers_under o at
  under_same None None at e = refl
  under_same (Some l) (Some c) at e =
      let same : layer_text c ≡ layer_text l = cc in
      by l.geometry c.geometry refl refl (ap (λ z. z.geometry) same)
    where
      by : (g h : Geometry A) → l.geometry ≡ g → c.geometry ≡ h → geometry_text h ≡ geometry_text g
          → numbers_under (Some c) at ≡ numbers_under (Some l) at
      by (geometry.Alone n) (geometry.Alone m) p q k = rw (p, q) cc
      by (geometry.Items ss) (geometry.Items cs) p q k = under_slot l c ss cs at p q cc
      by _ _ p q k = absurd cc
  under_same _ _ at e = absurd cc

  -- the feature with a number, by what is seen of the features
  entry_seen : (n m : ℕ) (fs : List (Option (Feature A)))
      → option_map (view_feature n) (live fs m) ≡ option_map (renumbered n) (live (map (option_map seen) fs) m)
  entry_seen n m [] = refl
  entry_seen n zero (None ∷ fs) = refl
  entry_seen n zero (Some f ∷ fs) = refl
  entry_seen n (suc m) (o ∷ fs) = entry_seen n m fs

  -- ---- a copy

  -- a feature that was put together from copies
  pub feature_copied : (f copy : Feature A) → copy.texts ≡ f.texts
      → AllZip SameLists f.polygons.items copy.polygons.items
      → seen copy ≡ seen f
  feature_copied f copy texts rings =
      ap₂ (λ t ps. with_texts 0 t ps) texts (lists_copied f.polygons.items copy.polygons.items rings)

  module _ (t copy : Tables A) (h : AreCopied t copy) where
    abbrev doc_as : Option Text → List (LayerOf ℕ) → List Member → DocumentOf ℕ
    doc_as transform layers members = record { transform = transform; layers = layers; members = members }

    same_entry : (m : ℕ) → entry copy.features.items m ≡ entry t.features.items m
    same_entry m =
        entry_seen m m copy.features.items
        ∙ ap (λ fs. option_map (renumbered m) (live fs m)) h.features ∙ sym (entry_seen m m t.features.items)

    same_places : places_of copy.layers.items ≡ places_of t.layers.items
    same_places =
        maps_same layer_text layer_tree (λ l c e. (layer_same l c e).0) t.layers.items copy.layers.items h.layers

    same_layers : map (view_layer copy.features.items) copy.layers.items ≡ map (view_layer t.features.items) t.layers.items
    same_layers =
        layers_filled copy.features.items copy.layers.items
        ∙ filled-agree _ _ (places_of copy.layers.items) (λ m i. same_entry m)
        ∙ ap (filled (entry t.features.items)) same_places
        ∙ sym (layers_filled t.features.items t.layers.items)

    same_doc : doc_of copy ≡ doc_of t
    same_doc =
        ap₂ (λ x ls. doc_as (option_map (λ z. z.now) x) ls (map view_kept copy.members.items)) h.transform same_layers
        ∙ ap (doc_as (option_map (λ z. z.now) t.transform) (map (view_layer t.features.items) t.layers.items)) h.members

    same_length : length copy.features.items ≡ length t.features.items
    same_length =
        sym (length-map copy.features.items (option_map seen)) ∙ ap length h.features ∙ length-map t.features.items (option_map seen)

    same_numbers : all_numbers copy.layers.items ≡ all_numbers t.layers.items
    same_numbers =
        sym (layers_placed copy.layers.items) ∙ ap numbers_placed same_places ∙ layers_placed t.layers.items

    same_enclosed : list_all (λ l. is_enclosed l.geometry) copy.layers.items ≡ list_all (λ l. is_enclosed l.geometry) t.layers.items
    same_enclosed =
        sym (list_all-map (λ b. b) (λ (l : Layer A). is_enclosed l.geometry) copy.layers.items)
        ∙ ap (list_all (λ b. b))
        (maps_same layer_text (λ l. is_enclosed l.geometry) (λ l c e. (layer_same l c e).1) t.layers.items copy.layers.items h.layers)
        ∙ list_all-map (λ b. b) (λ (l : Layer A). is_enclosed l.geometry) t.layers.items

    same_under : (j at : ℕ) → numbers_under (slice_get copy.layers.items j) at ≡ numbers_under (slice_get t.layers.items j) at
    same_under j at =
        under_same (slice_get t.layers.items j) (slice_get copy.layers.items j) at
        (sym (slice_get-map layer_text copy.layers.items j) ∙ ap (λ ls. slice_get ls j) h.layers ∙ slice_get-map layer_text t.layers.items j)

    stands : ((n : ℕ) (s : Stand) → slice_get t.stands.items n ≡ Some s → StandsAt t.layers.items n s)
        → (n : ℕ) (s : Stand) → slice_get copy.stands.items n ≡ Some s → StandsAt copy.layers.items n s
    stands k n s e =
        subst (λ ns. Contains ns n) (sym (same_under s.layer s.slot))
        (k n s (ap (λ z. slice_get z n) (sym h.stands) ∙ e))

    -- the copy means the same
    pub same_framed : framed copy ≡ framed t
    same_framed =
        ap₂ (λ (d : DocumentOf ℕ) (n : ℕ). as_framed d n (places_of copy.layers.items) (length copy.names.items)) same_doc same_length
        ∙ ap₂ (λ (p : List LayerTree) (n : ℕ). as_framed (doc_of t) (length t.features.items) p n) same_places (ap length h.names)
      where
        as_framed : DocumentOf ℕ → ℕ → List LayerTree → ℕ → Framed
        as_framed d n p room = record { doc = d; next = n; places = p; room = room }

    -- and its tables belong together
    pub copy_framed : IsFramed t → IsFramed copy
    copy_framed k = record {
      formed = subst (λ d. WellFormed d) (sym same_doc) k.formed;
      enclosed = same_enclosed ∙ k.enclosed;
      once = ap are_distinct same_numbers ∙ k.once;
      below = subst (λ m. AllByRecursion (λ n. n < m) (all_numbers copy.layers.items)) (sym same_length)
          (subst (λ ns. AllByRecursion (λ n. n < length t.features.items) ns) (sym same_numbers) k.below);
      alike = ap length h.stands ∙ k.alike ∙ sym same_length;
      standing = stands k.standing;
      counted = h.count ∙ k.counted ∙ ap (λ d. length (features d)) (sym same_doc);
      few = subst (λ m. m ≤ 200000) (sym same_length) k.few;
      named = subst (λ d. AreNamed copy.names.items d) (sym same_doc)
          (subst (λ ns. AreNamed ns (doc_of t)) (sym h.names) k.named);
      empty = λ fs. slots_filled fs copy.empty.items
          ∙ ap (flat_map (item_at (entry fs))) (slots_same t.empty.items copy.empty.items h.empty)
          ∙ sym (slots_filled fs t.empty.items) ∙ k.empty fs;
    }
