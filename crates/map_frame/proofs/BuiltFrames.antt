-- What the layers that were built mean, and where their features stand.
use Rattle.kit_words.proofs.Common.{◌≡◌, ◌≢◌, ◌∙◌, ℕ, zero, suc, ◌+◌, ◌<◌, ◌≤◌, refl, sym, ap, ap₂, subst, arith, List}
use Rattle.kit_words.proofs.Common.{[], ◌∷◌, ◌++◌, length, map, drop, Option, Some, option_map, true, ◌&&◌, inl}
use Rattle.kit_words.proofs.Common.{Contains, Vec, not, IsTrue, slice_get, unwrap_or, flat_map, list_all, slice_get-map}
use Rattle.kit_words.proofs.Common.{ℕ_discrete, dec_lt, false≢true, and_parts}
use Rattle.ring_machine.specs.Common.{Text, ItemOf, LayerOf, Leaf, is_inner, is_geometry}
use Rattle.ring_machine.proofs.Common.{In, in_contains}
use Rattle.map_frame.specs.Common.{feature_numbers, Feature, Stand, Slot, Geometry, Layer, Progress, IsNext, IsLeaf}
use Rattle.map_frame.specs.Common.{IsSlot, AreSlots, is_lone, IsGeometry, AreLayers, numbers_at, numbers_under}
use Rattle.map_frame.specs.Common.{is_closing, is_whole, is_enclosed, leaf_of, items_at, items_of, view_layer}
use Rattle.topo_outline.specs.Shape.{Piece}
use Rattle.topo_outline.specs.Common.{form_of, view_head, view_item}
use Rattle.topo_outline.specs.Views as read
use Rattle.topo_outline.specs.declared.document.Item.{Item}
use Rattle.topo_outline.specs.declared.document.Item.TheVariants as item
use Rattle.topo_outline.specs.declared.document.RawFeature.{RawFeature}
use Rattle.topo_outline.specs.declared.document.RawLayer.{RawLayer}
use Rattle.topo_outline.specs.Common.{numbered, polygons_at, items_from, layers_from}
use Rattle.map_frame.specs.declared.tables.Geometry.TheVariants as geometry
use Rattle.edit_records.specs.Common.{or_empty}
use Rattle.map_frame.proofs.Built.{Whole, Waits, leaves_of, next_whole, next_stands, came_next, came_slot, came_slots, came_geometry, came_layers}
use Rattle.map_frame.proofs.NamedOnce.{same_some}
use Rattle.map_frame.proofs.ReadLists.{got_behind}

-- ---- lists

got_first : {X : Type 0} (xs : List X) (n : ℕ) (x : X) (ys : List X) → drop n xs ≡ x ∷ ys → slice_get xs n ≡ Some x
got_first (z ∷ xs) zero x ys e = ap (λ zs. slice_get zs 0) e
got_first (z ∷ xs) (suc n) x ys e = got_first xs n x ys e
got_first [] zero x ys e = absurd cc
got_first [] (suc n) x ys e = absurd cc

module _ {A : Type 0} where
  -- ---- the next feature

  module _ (fs : List (Option (Feature A))) (ss : List Stand) (all : List (Vec (Vec ℕ A) A)) (raw : RawFeature A) (layer at : ℕ) (old new : Progress A)
      (h : IsNext raw layer at old new) where
    stand_there : Whole fs ss new → slice_get ss (length old.features) ≡ Some (record { layer = layer; slot = at })
    stand_there w =
        ap₂ (λ z i. slice_get z i) (next_stands layer at old new h fs ss w) (sym h.alike)
        ∙ got_behind old.stands (record { layer = layer; slot = at }) w.more_stands

    feature_there : Whole fs ss new → slice_get fs (length old.features) ≡ Some (Some h.feature)
    feature_there w =
        ap (λ z. slice_get z (length old.features)) (next_whole layer at old new h fs ss w)
        ∙ got_behind old.features (Some h.feature) w.more

    polygons_there : Waits all old → polygons_at (map feature_numbers all) (length old.features) ≡ feature_numbers h.polygons
    polygons_there v =
        ap (λ o. unwrap_or o [])
        (slice_get-map feature_numbers all (length old.features)
        ∙ ap (option_map feature_numbers) (got_first all (length old.features) h.polygons new.waiting (v.waits ∙ h.taken)))

    leaf_seen : Whole fs ss new → Waits all old → leaf_of fs (length old.features)
        ≡ Leaf (numbered (length old.features) (form_of raw.form) (view_head raw.head) (polygons_at (map feature_numbers all) (length old.features))) ∷ []
    leaf_seen w v =
        let there = feature_there w in
        let n = length old.features in
        rw there (ap (λ z. Leaf z ∷ [])
        (h.read.seen n ∙ ap (λ z. numbered n (form_of raw.form) (view_head raw.head) z) (sym (polygons_there v))))

  -- ---- what is meant

  module _ (fs : List (Option (Feature A))) (ss : List Stand) (all : List (Vec (Vec ℕ A) A)) where
    abbrev rings : List (List (List ℕ))
    rings = map feature_numbers all

    slot_seen : (layer at : ℕ) (i : Item A) (s : Slot A) (old now : Progress A) → IsSlot layer at i s old now
        → Whole fs ss now → Waits all old → (ps : List Piece)
        → items_at fs s ++ items_from (length now.features) rings ps ≡ items_from (length old.features) rings (view_item i ∷ ps)
    slot_seen layer at (item.Leaf raw) s old now k w v ps =
        ap₂ (λ y n. y ++ items_from n rings ps)
        (ap (items_at fs) k.0.1 ∙ ap (λ ns. flat_map (leaf_of fs) ns) k.0.2 ∙ ap (λ z. z ++ []) (leaf_seen fs ss all raw layer at old now k.1 w v))
        (came_next layer at old now k.1).more
    slot_seen layer at i s old now k w v ps =
        ap₂ (λ y n. y ++ items_from n rings ps) (ap (items_at fs) k.0) (ap (λ p. length p.features) k.1)

    slots_seen : (layer at : ℕ) (items : List (Item A)) (slots : List (Slot A)) (old new : Progress A)
        → AreSlots layer at items slots old new → Whole fs ss new → Waits all old
        → flat_map (items_at fs) slots ≡ items_from (length old.features) rings (map view_item items)
    slots_seen layer at [] [] old new h w v = refl
    slots_seen layer at (i ∷ items) (s ∷ slots) old new h w v =
        ap (λ z. items_at fs s ++ z)
        (slots_seen layer (at + 1) items slots h.0 new h.2 w ((came_slot layer at i s old h.0 h.1).waits all v))
        ∙ slot_seen layer at i s old h.0 h.1 ((came_slots layer (at + 1) items slots h.0 new h.2).whole fs ss w) v (map view_item items)
    slots_seen layer at _ _ old new h w v = absurd h

    geometry_seen : (at : ℕ) (items : List (Item A)) (g : Geometry A) (old new : Progress A) → IsGeometry at items g old new
        → Whole fs ss new → Waits all old
        → items_of fs g ≡ items_from (length old.features) rings (map view_item items)
    geometry_seen at items (geometry.Alone n) old new h w v =
        ap (λ z. or_empty (leaf_of fs z)) h.2 ∙ ap or_empty (leaf_seen fs ss all h.0 at 0 old new h.3 w v)
        ∙ ap (λ z. items_from (length old.features) rings (map view_item z)) (sym h.1)
    geometry_seen at items (geometry.Items slots) old new h w v = slots_seen at 0 items slots.items old new h.1 w v

    abbrev named_items : Text → List (ItemOf ℕ) → LayerOf ℕ
    named_items name items = record { name = name; items = items }

    -- the layers mean what was read
    pub layers_seen : (at : ℕ) (raws : List (RawLayer A)) (layers : List (Layer A)) (old new : Progress A) → AreLayers at raws layers old new
        → Whole fs ss new → Waits all old
        → map (view_layer fs) layers ≡ layers_from (length old.features) rings (map read.view_layer raws)
    layers_seen at [] [] old new h w v = refl
    layers_seen at (r ∷ raws) (l ∷ layers) old new h w v =
        ap₂ (λ (y : LayerOf ℕ) (ys : List (LayerOf ℕ)). y ∷ ys)
        (ap₂ named_items (ap (λ t. t.now) h.1) (geometry_seen at r.items.items l.geometry old h.0 h.2 ((came_layers (at + 1) raws layers h.0 new h.3).whole fs ss w) v))
        (layers_seen (at + 1) raws layers h.0 new h.3 w ((came_geometry at r.items.items l.geometry old h.0 h.2).waits all v)
        ∙ ap (λ n. layers_from n rings (map read.view_layer raws)) (came_geometry at r.items.items l.geometry old h.0 h.2).more)
    layers_seen at _ _ old new h w v = absurd h

  -- ---- where features stand

  -- the feature with this number stands in one of the slots from this one on
  record SlotStands (layer at : ℕ) (slots : List (Slot A)) (n : ℕ) (x : Stand) : Type 0 where
    pub of_layer : x.layer ≡ layer
    pub place : ℕ
    pub of_slot : x.slot ≡ at + place
    pub found : Slot A
    pub there : slice_get slots place ≡ Some found
    pub has : In n (numbers_at found)

  later : (layer at : ℕ) (s : Slot A) (slots : List (Slot A)) (n : ℕ) (x : Stand) → SlotStands layer (at + 1) slots n x
      → SlotStands layer at (s ∷ slots) n x
  later layer at s slots n x k = record {
    of_layer = k.of_layer;
    place = suc k.place;
    of_slot = omega (arith, k.of_slot);
    found = k.found;
    there = k.there;
    has = k.has;
  }

  module _ (fs : List (Option (Feature A))) (ss : List Stand) (n : ℕ) (x : Stand) (got : slice_get ss n ≡ Some x) where
    next_is : (raw : RawFeature A) (layer at : ℕ) (old new : Progress A) (h : IsNext raw layer at old new) → Whole fs ss new
        → n ≡ length old.features → x ≡ record { layer = layer; slot = at }
    next_is raw layer at old new h w e =
        same_some x (record { layer = layer; slot = at }) (sym got ∙ ap (slice_get ss) e ∙ stand_there fs ss [] raw layer at old new h w)

    leaf_here : (raw : RawFeature A) (layer at : ℕ) (s : Slot A) (slots : List (Slot A)) (old new : Progress A)
        → IsLeaf (length old.features) s → IsNext raw layer at old new → Whole fs ss new → n ≡ length old.features
        → SlotStands layer at (s ∷ slots) n x
    leaf_here raw layer at s slots old new k h w e =
        let same = next_is raw layer at old new h w e in
        record {
          of_layer = ap (λ z. z.layer) same;
          place = 0;
          of_slot = omega (arith, ap (λ z. z.slot) same);
          found = s;
          there = refl;
          has = subst (λ z. In n z) (sym (ap numbers_at k.1 ∙ k.2)) (inl (sym e));
        }

    slots_standing : (layer at : ℕ) (items : List (Item A)) (slots : List (Slot A)) (old new : Progress A)
        → AreSlots layer at items slots old new → Whole fs ss new → length old.features ≤ n → n < length new.features
        → SlotStands layer at slots n x
    slots_standing layer at [] [] old new h w lo hi = absurd (omega (arith, ap (λ p. length p.features) h))
    slots_standing layer at (item.Leaf raw ∷ items) (s ∷ slots) old new h w lo hi =
        by (ℕ_discrete n (length old.features)) (slots_standing layer (at + 1) items slots h.0 new h.2 w)
      where
        by : Dec (n ≡ length old.features)
            → (length h.0.features ≤ n → n < length new.features → SlotStands layer (at + 1) slots n x)
            → SlotStands layer at (s ∷ slots) n x
        by (yes e) rest =
            leaf_here raw layer at s slots old h.0 h.1.0 h.1.1 ((came_slots layer (at + 1) items slots h.0 new h.2).whole fs ss w) e
        by (no f) rest =
            later layer at s slots n x
            (rest (above (length old.features) (length h.0.features) lo f (came_next layer at old h.0 h.1.1).more) hi)
          where
            above : (a b : ℕ) → a ≤ n → n ≢ a → b ≡ a + 1 → b ≤ n
            above a b l f e = omega arith
    slots_standing layer at (i ∷ items) (s ∷ slots) old new h w lo hi =
        later layer at s slots n x (slots_standing layer (at + 1) items slots h.0 new h.2 w (omega (arith, ap (λ p. length p.features) h.1.1)) hi)
    slots_standing layer at _ _ old new h w lo hi = absurd h

    under_items : (l : Layer A) (slots : Vec (Slot A) A) (j k : ℕ) (s : Slot A) → l.geometry ≡ geometry.Items slots → j ≡ 0 + k
        → slice_get slots.items k ≡ Some s → In n (numbers_at s) → Contains (numbers_under (Some l) j) n
    under_items l slots j k s g e there i =
        let at : slice_get slots.items j ≡ Some s = ap (slice_get slots.items) (let same : j ≡ k = omega (arith, e) in same) ∙ there in
        rw (g, at) (in_contains (numbers_at s) n i)

    under_alone : (l : Layer A) (j m : ℕ) → l.geometry ≡ geometry.Alone m → m ≡ n → Contains (numbers_under (Some l) j) n
    under_alone l j m g e = rw g (in_contains (m ∷ []) n (inl e))

    layer_standing : (at : ℕ) (items : List (Item A)) (l : Layer A) (g : Geometry A) (old new : Progress A) → l.geometry ≡ g
        → IsGeometry at items g old new → Whole fs ss new → length old.features ≤ n → n < length new.features
        → (x.layer ≡ at) × Contains (numbers_under (Some l) x.slot) n
    layer_standing at items l (geometry.Alone m) old new e h w lo hi =
        let here : n ≡ length old.features = omega (arith, lo, hi, (came_next at 0 old new h.3).more) in (
          ap (λ z. z.layer) (next_is h.0 at 0 old new h.3 w here),
          under_alone l x.slot m e (h.2 ∙ sym here),
        )
    layer_standing at items l (geometry.Items slots) old new e h w lo hi =
        let k = slots_standing at 0 items slots.items old new h.1 w lo hi in
        (k.of_layer, under_items l slots x.slot k.place k.found e k.of_slot k.there k.has)

    pub layers_standing : (at : ℕ) (raws : List (RawLayer A)) (layers : List (Layer A)) (old new : Progress A) → AreLayers at raws layers old new
        → Whole fs ss new → length old.features ≤ n → n < length new.features
        → (k : ℕ) × (x.layer ≡ at + k) × Contains (numbers_under (slice_get layers k) x.slot) n
    layers_standing at [] [] old new h w lo hi = absurd (omega (arith, ap (λ p. length p.features) h))
    layers_standing at (r ∷ raws) (l ∷ layers) old new h w lo hi =
        by (dec_lt n (length h.0.features)) (layers_standing (at + 1) raws layers h.0 new h.3 w)
      where
        by : Dec (n < length h.0.features)
            → (length h.0.features ≤ n → n < length new.features
            → (k : ℕ) × (x.layer ≡ at + 1 + k) × Contains (numbers_under (slice_get layers k) x.slot) n)
            → (k : ℕ) × (x.layer ≡ at + k) × Contains (numbers_under (slice_get (l ∷ layers) k) x.slot) n
        by (yes below) rest =
            let k = layer_standing at r.items.items l l.geometry old h.0 refl h.2 ((came_layers (at + 1) raws layers h.0 new h.3).whole fs ss w) lo below in
            (0, omega (arith, k.0), k.1)
        by (no f) rest =
            let k = rest (above (length h.0.features) f) hi in
            (suc k.0, omega (arith, k.1), k.2)
          where
            above : (b : ℕ) → (n < b → ⊥) → b ≤ n
            above b f = omega arith
    layers_standing at _ _ old new h w lo hi = absurd h

  -- ---- lone features stand as such

  closing_built : (layer at n k : ℕ) (all : List (List (List ℕ))) (items : List (Item A)) (slots : List (Slot A)) (old new : Progress A)
      → AreSlots layer at items slots old new → is_inner k (items_from n all (map view_item items)) ≡ true
      → is_closing k slots ≡ true
  closing_built layer at n zero all [] [] old new h e = refl
  closing_built layer at n k all [] (s ∷ slots) old new h e = absurd h
  closing_built layer at n k all (i ∷ items) [] old new h e = absurd h
  closing_built layer at n zero all (item.Close ∷ items) (s ∷ slots) old new h e = absurd (false≢true e)
  closing_built layer at n (suc k) all (item.Open hd ∷ items) (s ∷ slots) old new h e =
      ap (λ z. is_closing (suc k) (z ∷ slots)) h.1.0
      ∙ closing_built layer (at + 1) n (suc (suc k)) all items slots h.0 new h.2 e
  closing_built layer at n (suc k) all (item.Close ∷ items) (s ∷ slots) old new h e =
      ap (λ z. is_closing (suc k) (z ∷ slots)) h.1.0 ∙ closing_built layer (at + 1) n k all items slots h.0 new h.2 e
  closing_built layer at n (suc k) all (item.Kept t ∷ items) (s ∷ slots) old new h e =
      ap (λ z. is_closing (suc k) (z ∷ slots)) h.1.0
      ∙ closing_built layer (at + 1) n (suc k) all items slots h.0 new h.2 e
  closing_built layer at n (suc k) all (item.Leaf raw ∷ items) (s ∷ slots) old new h e =
      ap (λ z. is_closing (suc k) (z ∷ slots)) h.1.0.1
      ∙ closing_built layer (at + 1) (n + 1) (suc k) all items slots h.0 new h.2 e
  closing_built layer at n _ all _ _ old new h e = absurd (false≢true e)

  whole_built : (at n : ℕ) (all : List (List (List ℕ))) (items : List (Item A)) (slots : List (Slot A)) (old new : Progress A)
      → IsTrue (not (is_lone items)) → AreSlots at 0 items slots old new
      → is_geometry (items_from n all (map view_item items)) ≡ true → is_whole slots ≡ true
  whole_built at n all (item.Open hd ∷ items) [] old new lone h e = absurd h
  whole_built at n all (item.Open hd ∷ items) (s ∷ slots) old new lone h e =
      ap (λ z. is_whole (z ∷ slots)) h.1.0 ∙ closing_built at 1 n 1 all items slots h.0 new h.2 e
  whole_built at n all (item.Kept t ∷ items) [] old new lone h e = absurd h
  whole_built at n all (item.Kept t ∷ items) (s ∷ slots) old new lone h e =
      ap (λ z. is_whole (z ∷ slots)) h.1.0 ∙ closing_built at 1 n 0 all items slots h.0 new h.2 e
  whole_built at n all (item.Leaf raw ∷ []) slots old new lone h e = absurd (false≢true lone)
  whole_built at n all (item.Leaf raw ∷ item.Close ∷ items) slots old new lone h e = absurd (false≢true e)
  whole_built at n all _ slots old new lone h e = absurd (false≢true e)

  geometry_enclosed : (at n : ℕ) (all : List (List (List ℕ))) (items : List (Item A)) (g : Geometry A) (old new : Progress A)
      → IsGeometry at items g old new → is_geometry (items_from n all (map view_item items)) ≡ true → is_enclosed g ≡ true
  geometry_enclosed at n all items (geometry.Alone m) old new h e = refl
  geometry_enclosed at n all items (geometry.Items slots) old new h e = whole_built at n all items slots.items old new h.0 h.1 e

  pub layers_enclosed : (at n : ℕ) (all : List (List (List ℕ))) (raws : List (RawLayer A)) (layers : List (Layer A)) (old new : Progress A)
      → AreLayers at raws layers old new
      → list_all (λ l. is_geometry l.items) (layers_from n all (map read.view_layer raws)) ≡ true
      → list_all (λ l. is_enclosed l.geometry) layers ≡ true
  layers_enclosed at n all [] [] old new h e = refl
  layers_enclosed at n all (r ∷ raws) (l ∷ layers) old new h e =
      let m = n + leaves_of r.items.items in
      let both = and_parts (is_geometry (items_from n all (map view_item r.items.items)))
      (list_all (λ l. is_geometry l.items) (layers_from m all (map read.view_layer raws))) e in
      ap₂ (λ y z. y && z) (geometry_enclosed at n all r.items.items l.geometry old h.0 h.2 both.0)
      (layers_enclosed (at + 1) m all raws layers h.0 new h.3 both.1)
  layers_enclosed at n all _ _ old new h e = absurd h
