-- Where a feature stands beside which a new number comes: in a slot among the items of its layer.
use Rattle.kit_words.proofs.Common.{◌≡◌, ◌<◌, ℕ, false, refl, ap, ◌∙◌, length, sym, Option, Some, None, slice_get, Vec}
use Rattle.kit_words.proofs.Common.{slice_get_within, false≢true}
use Rattle.ring_machine.specs.Common.{is_layer}
use Rattle.ring_machine.proofs.Common.{In, contains_in}
use Rattle.map_frame.specs.Common.{Feature, Stand, Slot, Geometry, Layer, Tables, IsFramed, numbers_under, live, doc_of}
use Rattle.map_frame.specs.declared.tables.Slot.TheVariants as slot
use Rattle.map_frame.specs.declared.tables.Geometry.TheVariants as geometry
use Rattle.map_frame.proofs.NamedOnce.{same_some}
use Rattle.map_frame.proofs.ReadAlone.{is_alone}

-- the slot and the layer of a stand
pub record GrownPlace {A : Type 0} (t : Tables A) (s : Stand) : Type 0 where
  pub layer : Layer A
  pub slots : Vec (Slot A) A
  pub numbers : Vec ℕ A
  pub at_layer : slice_get t.layers.items s.layer ≡ Some layer
  pub in_items : layer.geometry ≡ geometry.Items slots
  pub at_slot : slice_get slots.items s.slot ≡ Some (slot.Leaves numbers)

module _ {A : Type 0} (t : Tables A) (n : ℕ) (f : Feature A) (s : Stand) (k : IsFramed t)
    (inside : is_layer (doc_of t) n ≡ false) (here : live t.features.items n ≡ Some f)
    (at : slice_get t.stands.items n ≡ Some s) where
  under : In n (numbers_under (slice_get t.layers.items s.layer) s.slot)
  under = contains_in _ n (k.standing n s at)

  in_slot : (l : Layer A) (ss : Vec (Slot A) A) → slice_get t.layers.items s.layer ≡ Some l
      → l.geometry ≡ geometry.Items ss → In n (numbers_under (Some l) s.slot)
      → (o : Option (Slot A)) → slice_get ss.items s.slot ≡ o → GrownPlace t s
  in_slot l ss e g i (Some (slot.Leaves ns)) q =
      record { layer = l; slots = ss; numbers = ns; at_layer = e; in_items = g; at_slot = q }
  in_slot l ss e g i _ q = absurd (rw q at (rw g at i))

  in_geometry : (l : Layer A) → slice_get t.layers.items s.layer ≡ Some l
      → In n (numbers_under (Some l) s.slot) → (g : Geometry A) → l.geometry ≡ g → GrownPlace t s
  in_geometry l e i (geometry.Alone m) g =
      absurd (false≢true (sym inside ∙ sym (is_alone t k n f here s at l e m g)))
  in_geometry l e i (geometry.Items ss) g = in_slot l ss e g i (slice_get ss.items s.slot) refl

  -- a feature that is no layer's geometry stands in a slot
  pub grown_place : GrownPlace t s
  grown_place = by (slice_get t.layers.items s.layer) refl
    where
      by : (o : Option (Layer A)) → slice_get t.layers.items s.layer ≡ o → GrownPlace t s
      by None e = absurd (rw e at under)
      by (Some l) e = in_geometry l e (rw e at under) l.geometry refl

  -- the slot that the feature names is one of its layer's
  pub slot_within : (l : Layer A) (ss : Vec (Slot A) A) → slice_get t.layers.items s.layer ≡ Some l
      → l.geometry ≡ geometry.Items ss → s.slot < length ss.items
  slot_within l ss e g =
      let p = grown_place in
      let own : l ≡ p.layer = same_some l p.layer (sym e ∙ p.at_layer) in
      let same : ss ≡ p.slots = items_same ss p.slots (sym g ∙ ap (λ (z : Layer A). z.geometry) own ∙ p.in_items) in
      slice_get_within ss.items s.slot (slot.Leaves p.numbers)
      (ap (λ (z : Vec (Slot A) A). slice_get z.items s.slot) same ∙ p.at_slot)
    where
      items_same : (a b : Vec (Slot A) A) → ◌≡◌ {A = Geometry A} (geometry.Items a) (geometry.Items b) → a ≡ b
      items_same a b e = cc
