-- What is true of every frame.
use Rattle.std.specs.Prelude.{ℕ, zero, suc, ◌≡◌, ◌<◌, ◌≤◌, List, [], ◌∷◌, length, Option, None, Some, slice_get, IsTrue, Bool, true, false, Contains}
use Rattle.std.specs.List.{list_all, flat_map, AllByRecursion}
use Rattle.ring_machine.specs.Common.{features, empty_collection, WellFormed, are_distinct}
use Rattle.map_frame.specs.declared.feature.Feature.{Feature}
use Rattle.map_frame.specs.declared.feature.Stand.{Stand}
use Rattle.map_frame.specs.declared.tables.Slot.{Slot}
use Rattle.map_frame.specs.declared.tables.Slot.TheVariants as slot
use Rattle.map_frame.specs.declared.tables.Geometry.{Geometry}
use Rattle.map_frame.specs.declared.tables.Geometry.TheVariants as geometry
use Rattle.map_frame.specs.declared.tables.Layer.{Layer}
use Rattle.map_frame.specs.declared.tables.Tables.{Tables}
use Rattle.map_frame.specs.Seen.{doc_of, items_at}
use Rattle.map_frame.specs.Named.{AreNamed}

module _ {A : Type 0} where
  -- the numbers of a slot, those taken out with them
  abbrev pub numbers_at : Slot A → List ℕ
  numbers_at (slot.Leaves numbers) = numbers.items
  numbers_at (slot.Open h) = []
  numbers_at slot.Close = []
  numbers_at (slot.Kept t) = []

  -- the numbers of a layer
  abbrev pub numbers_in : Geometry A → List ℕ
  numbers_in (geometry.Alone n) = n ∷ []
  numbers_in (geometry.Items slots) = flat_map numbers_at slots.items

  -- the numbers of all layers
  abbrev pub all_numbers : List (Layer A) → List ℕ
  all_numbers layers = flat_map (λ l. numbers_in l.geometry) layers

  -- the numbers of the slot at a place
  abbrev pub numbers_under : Option (Layer A) → ℕ → List ℕ
  numbers_under None at = []
  numbers_under (Some l) at = under l.geometry
    where
      in_slot : Option (Slot A) → List ℕ
      in_slot None = []
      in_slot (Some s) = numbers_at s

      under : Geometry A → List ℕ
      under (geometry.Alone n) = n ∷ []
      under (geometry.Items slots) = in_slot (slice_get slots.items at)

  -- the number stands where it is said to stand
  abbrev pub StandsAt : List (Layer A) → ℕ → Stand → Type 0
  StandsAt layers n s = Contains (numbers_under (slice_get layers s.layer) s.slot) n

  -- the slots lead to the end of the n collections that are open, and no further
  abbrev pub is_closing : ℕ → List (Slot A) → Bool
  is_closing zero [] = true
  is_closing zero (s ∷ ss) = false
  is_closing (suc n) [] = false
  is_closing (suc n) (slot.Open h ∷ ss) = is_closing (suc (suc n)) ss
  is_closing (suc n) (slot.Close ∷ ss) = is_closing n ss
  is_closing (suc n) (slot.Kept t ∷ ss) = is_closing (suc n) ss
  is_closing (suc n) (slot.Leaves ns ∷ ss) = is_closing (suc n) ss

  -- a kept text, or a collection from its beginning to its end
  abbrev pub is_whole : List (Slot A) → Bool
  is_whole [] = false
  is_whole (slot.Open h ∷ ss) = is_closing 1 ss
  is_whole (slot.Kept t ∷ ss) = is_closing 0 ss
  is_whole (slot.Close ∷ ss) = false
  is_whole (slot.Leaves ns ∷ ss) = false

  -- a feature alone, or such items, whatever features are there
  abbrev pub is_enclosed : Geometry A → Bool
  is_enclosed (geometry.Alone n) = true
  is_enclosed (geometry.Items slots) = is_whole slots.items

  -- the frame's tables belong together
  pub record IsFramed (f : Tables A) : Type 0 where
    pub formed : WellFormed (doc_of f)
    pub enclosed : IsTrue (list_all (λ l. is_enclosed l.geometry) f.layers.items)
    -- no number stands twice, and each is one of the table
    pub once : IsTrue (are_distinct (all_numbers f.layers.items))
    pub below : AllByRecursion (λ n. n < length f.features.items) (all_numbers f.layers.items)
    pub alike : length f.stands.items ≡ length f.features.items
    pub standing : (n : ℕ) (s : Stand) → slice_get f.stands.items n ≡ Some s
        → StandsAt f.layers.items n s
    pub counted : f.count ≡ length (features (doc_of f))
    pub few : length f.features.items ≤ 200000
    pub named : AreNamed f.names.items (doc_of f)
    -- whatever features there are
    pub empty : (features : List (Option (Feature A)))
        → flat_map (items_at features) f.empty.items ≡ empty_collection
