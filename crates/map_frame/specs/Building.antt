-- What building makes of the layers that were read, layer by layer and item by item.
use Rattle.std.specs.Prelude.{◌≡◌, ℕ, ◌+◌, ◌≤◌, List, [], ◌∷◌, ◌++◌, length, Option, None, Some, slice_get, Bool, true, false, not, IsTrue, Vec}
use Rattle.std.specs.Vec.Iter.{into_iter_items}
use Rattle.map_frame.specs.Numbers.{feature_numbers}
use Rattle.topo_outline.specs.Common.{form_of, view_head}
use Rattle.topo_outline.specs.declared.document.Item.{Item}
use Rattle.topo_outline.specs.declared.document.Item.TheVariants as item
use Rattle.topo_outline.specs.declared.document.RawFeature.{RawFeature}
use Rattle.topo_outline.specs.declared.document.RawLayer.{RawLayer}
use Rattle.topo_outline.specs.Common.{numbered}
use Rattle.map_frame.specs.declared.building.Gathered.{Gathered}
use Rattle.map_frame.specs.declared.feature.Feature.{Feature}
use Rattle.map_frame.specs.declared.feature.Stand.{Stand}
use Rattle.map_frame.specs.declared.tables.Slot.{Slot}
use Rattle.map_frame.specs.declared.tables.Slot.TheVariants as slot
use Rattle.map_frame.specs.declared.tables.Geometry.{Geometry}
use Rattle.map_frame.specs.declared.tables.Geometry.TheVariants as geometry
use Rattle.map_frame.specs.declared.tables.Layer.{Layer}
use Rattle.map_frame.specs.Seen.{view_feature}

-- the features so far, where they stand, and the polygons of each feature to come
pub record Progress (A : Type 0) : Type 0 where
  pub features : List (Option (Feature A))
  pub stands : List Stand
  pub waiting : List (Vec (Vec ℕ A) A)

module _ {A : Type 0} where
  abbrev pub progress : Gathered A → Progress A
  progress g = record {
    features = g.features.items;
    stands = g.stands.items;
    waiting = into_iter_items g.waiting;
  }

  -- there is room for so many features more, and each has polygons
  pub record CanTake (n : ℕ) (now : Progress A) : Type 0 where
    pub few : length now.features + n ≤ 200000
    pub there : n ≤ length now.waiting
    pub alike : length now.stands ≡ length now.features

  -- the feature that was read, with these polygons
  pub record IsRead (raw : RawFeature A) (polygons : List (List ℕ)) (f : Feature A) : Type 0 where
    pub seen : (n : ℕ)
        → view_feature n f ≡ numbered n (form_of raw.form) (view_head raw.head) polygons

  -- the feature that was read comes next, in this slot of this layer, with the polygons that
  -- waited first
  pub record IsNext (raw : RawFeature A) (layer slot : ℕ) (old new : Progress A) : Type 0 where
    pub feature : Feature A
    pub polygons : Vec (Vec ℕ A) A
    pub appended : new.features ≡ old.features ++ Some feature ∷ []
    pub alike : length old.stands ≡ length old.features
    pub stood : new.stands ≡ old.stands ++ (record { layer = layer; slot = slot }) ∷ []
    pub taken : old.waiting ≡ polygons ∷ new.waiting
    pub read : IsRead raw (feature_numbers polygons) feature

  -- the slot has this number alone
  abbrev pub IsLeaf : ℕ → Slot A → Type 0
  IsLeaf n s = (numbers : Vec ℕ A) × (s ≡ slot.Leaves numbers) × (numbers.items ≡ n ∷ [])

  -- the slot with this number of a layer is that of the item
  abbrev pub IsSlot : ℕ → ℕ → Item A → Slot A → Progress A → Progress A → Type 0
  IsSlot layer at (item.Open head) s old new = (s ≡ slot.Open head) × (new ≡ old)
  IsSlot layer at item.Close s old new = (s ≡ slot.Close) × (new ≡ old)
  IsSlot layer at (item.Kept t) s old new = (s ≡ slot.Kept t) × (new ≡ old)
  IsSlot layer at (item.Leaf raw) s old new =
      IsLeaf (length old.features) s × IsNext raw layer at old new

  -- the slots from this number on are those of the items
  abbrev pub AreSlots : ℕ → ℕ → List (Item A) → List (Slot A) → Progress A → Progress A → Type 0
  AreSlots layer at [] [] old new = new ≡ old
  AreSlots layer at [] (s ∷ slots) old new = ⊥
  AreSlots layer at (i ∷ items) [] old new = ⊥
  AreSlots layer at (i ∷ items) (s ∷ slots) old new = (now : Progress A)
      × IsSlot layer at i s old now × AreSlots layer (at + 1) items slots now new

  -- the first number of a slot of features
  abbrev pub first_of : Slot A → Option ℕ
  first_of (slot.Leaves numbers) = slice_get numbers.items 0
  first_of (slot.Open h) = None
  first_of slot.Close = None
  first_of (slot.Kept t) = None

  -- the number of a feature that stands alone
  abbrev pub lone : List (Slot A) → Option ℕ
  lone [] = None
  lone (s ∷ []) = first_of s
  lone (s ∷ t ∷ slots) = None

  abbrev pub alone_or : Vec (Slot A) A → Option ℕ → Geometry A
  alone_or slots (Some n) = geometry.Alone n
  alone_or slots None = geometry.Items slots

  -- the geometry of a layer with these slots: a feature that stands alone, or all of them
  abbrev pub of_slots : Vec (Slot A) A → Geometry A
  of_slots slots = alone_or slots (lone slots.items)

  -- one feature and nothing else
  abbrev pub is_lone : List (Item A) → Bool
  is_lone [] = false
  is_lone (item.Leaf raw ∷ []) = true
  is_lone (item.Leaf raw ∷ i ∷ items) = false
  is_lone (item.Open h ∷ items) = false
  is_lone (item.Close ∷ items) = false
  is_lone (item.Kept t ∷ items) = false

  -- the geometry of the layer with this number is that of the items
  abbrev pub IsGeometry : ℕ → List (Item A) → Geometry A → Progress A → Progress A → Type 0
  IsGeometry layer items (geometry.Alone n) old new = (raw : RawFeature A)
      × (items ≡ item.Leaf raw ∷ []) × (n ≡ length old.features) × IsNext raw layer 0 old new
  IsGeometry layer items (geometry.Items slots) old new =
      IsTrue (not (is_lone items)) × AreSlots layer 0 items slots.items old new

  -- the layers from this number on are those that were read
  abbrev pub AreLayers : ℕ → List (RawLayer A) → List (Layer A) → Progress A → Progress A → Type 0
  AreLayers at [] [] old new = new ≡ old
  AreLayers at [] (l ∷ layers) old new = ⊥
  AreLayers at (r ∷ raws) [] old new = ⊥
  AreLayers at (r ∷ raws) (l ∷ layers) old new = (now : Progress A) × (l.name ≡ r.name)
      × IsGeometry at r.items.items l.geometry old now × AreLayers (at + 1) raws layers now new
