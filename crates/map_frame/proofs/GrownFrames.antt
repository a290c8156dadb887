-- A frame in which a new number stands directly after that of a feature.
use Rattle.kit_words.proofs.Common.{◌≡◌, ◌+◌, ◌<◌, ℕ, true, false, refl, sym, ap, ◌∙◌, subst, [], ◌∷◌, ◌++◌, length}
use Rattle.kit_words.proofs.Common.{get_or, slice_set, Option, Some, None, slice_get, Vec, with_item, slice_get_within}
use Rattle.ring_machine.specs.Common.{has_feature, is_layer}
use Rattle.ring_machine.proofs.Common.{there as there_is}
use Rattle.edit_records.specs.Common.{grown}
use Rattle.map_frame.specs.Common.{Feature, Stand, Layer, Tables, with_number, with_slot, IsFramed, numbers_under, live}
use Rattle.map_frame.specs.Common.{doc_of, framed, places_of}
use Rattle.map_frame.specs.declared.tables.Slot.TheVariants as slot
use Rattle.map_frame.specs.declared.tables.Geometry.TheVariants as geometry
use Rattle.map_frame.proofs.GrownPlace.{GrownPlace, grown_place}
use Rattle.map_frame.proofs.GrownTables.{after_is}
use Rattle.map_frame.proofs.NamedOnce.{same_some}
use Rattle.map_frame.proofs.EditedStands.{has_is}
use Rattle.map_frame.proofs.ReadFeatures.{live_there}
use Rattle.map_frame.proofs.ReadLists.{got}

module _ {A : Type 0} (t : Tables A) (k : IsFramed t) (n : ℕ) (there : has_feature (doc_of t) n ≡ true) where
  pub found : (f : Feature A) × (live t.features.items n ≡ Some f)
  found = there_is (live t.features.items n) (sym (has_is t k n) ∙ there)

  pub number_within : n < length t.features.items
  number_within = slice_get_within t.features.items n (Some found.0) (live_there t.features.items n found.0 found.1)

  -- where it is said to stand
  pub stand_got : (s : Stand) → s ≡ get_or t.stands.items n s → slice_get t.stands.items n ≡ Some s
  stand_got s e =
      got t.stands.items t.stands.items n refl s (subst (λ z. n < z) (sym k.alike) number_within) e

  module _ (inside : is_layer (doc_of t) n ≡ false) (s : Stand) (at : slice_get t.stands.items n ≡ Some s) where
    pub number_place : GrownPlace t s
    number_place = grown_place t n found.0 s k inside found.1 at

    under_place : numbers_under (slice_get t.layers.items s.layer) s.slot ≡ number_place.numbers.items
    under_place = rw number_place.at_layer (rw number_place.in_items (rw number_place.at_slot refl))

    pub layer_within : s.layer < length t.layers.items
    layer_within = slice_get_within t.layers.items s.layer number_place.layer number_place.at_layer

    pub layer_got : (l : Layer A) → l ≡ get_or t.layers.items s.layer l → slice_get t.layers.items s.layer ≡ Some l
    layer_got l e = got t.layers.items t.layers.items s.layer refl l layer_within e

    module _ (old new : Layer A) (at_layer : slice_get t.layers.items s.layer ≡ Some old) (ns : Vec ℕ A)
        (numbers : ns.items ≡ with_number n (length t.features.items) (numbers_under (slice_get t.layers.items s.layer) s.slot))
        (written : new ≡ record old { geometry = with_slot old.geometry s.slot (slot.Leaves ns) })
        (fs' : Vec (Option (Feature A)) A) (features : fs'.items ≡ t.features.items ++ None ∷ [])
        (stands' : Vec Stand A) (stood : stands'.items ≡ t.stands.items ++ s ∷ [])
        (ls' : Vec (Layer A) A) (layers : ls'.items ≡ slice_set t.layers.items s.layer new) where
      abbrev p : GrownPlace t s
      p = number_place

      new_is : new ≡ record p.layer { geometry = geometry.Items (with_item p.slots s.slot (slot.Leaves ns)) }
      new_is =
          let own : old ≡ p.layer = same_some old p.layer (sym at_layer ∙ p.at_layer) in
          written ∙ ap (λ (z : Layer A). record z { geometry = with_slot z.geometry s.slot (slot.Leaves ns) }) own
          ∙ ap (λ y. record p.layer { geometry = with_slot y s.slot (slot.Leaves ns) }) p.in_items

      numbers_are : ns.items ≡ with_number n (length t.features.items) p.numbers.items
      numbers_are = numbers ∙ ap (with_number n (length t.features.items)) under_place

      layers_are : ls'.items ≡ slice_set t.layers.items s.layer
          (record p.layer { geometry = geometry.Items (with_item p.slots s.slot (slot.Leaves ns)) })
      layers_are = layers ∙ ap (slice_set t.layers.items s.layer) new_is

      -- the new number stands there, and the tables belong together
      pub grow_all : (framed (record t { features = fs'; stands = stands'; layers = ls' })
          ≡ record (framed t) {
            next = length t.features.items + 1;
            places = grown n (length t.features.items) (places_of t.layers.items);
          })
          × (length t.features.items < 200000 → IsFramed (record t { features = fs'; stands = stands'; layers = ls' }))
      grow_all =
          after_is t k n s p.layer p.slots (with_item p.slots s.slot (slot.Leaves ns)) p.numbers ns number_within at
          p.at_layer p.in_items p.at_slot numbers_are refl fs' features stands' stood ls' layers_are
