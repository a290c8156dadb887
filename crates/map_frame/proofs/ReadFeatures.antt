-- The features of a frame's document by their numbers.
use Rattle.kit_words.proofs.Common.{◌≡◌, ◌<◌, ◌≤◌, subst, length, ℕ, zero, suc, refl, sym, ap, ◌∙◌, List, [], ◌∷◌}
use Rattle.kit_words.proofs.Common.{arith, Contains, Option, Some, None, Vec, flat_map, none-some, slice_get_past}
use Rattle.std.specs.List.{slice_get}
use Rattle.ring_machine.proofs.Common.{In, contains_in, in-flat_map, slice-in}
use Rattle.map_frame.specs.Common.{Stand, Slot, Geometry, Layer, Tables, IsFramed, StandsAt, all_numbers, numbers_at}
use Rattle.map_frame.specs.Common.{numbers_in, numbers_under, live}
use Rattle.map_frame.specs.declared.tables.Geometry.TheVariants as geometry

module _ {X : Type 0} (fs : List (Option X)) (n : ℕ) where
  -- what is there is not taken out
  pub live_there : (f : X) → live fs n ≡ Some f → slice_get fs n ≡ Some (Some f)
  live_there f = by (slice_get fs n) refl
    where
      by : (o : Option (Option X)) → slice_get fs n ≡ o → live fs n ≡ Some f → o ≡ Some (Some f)
      by (Some (Some g)) e h = ap (λ z. Some z) (sym (rw e refl) ∙ h)
      by _ e h = absurd (none-some f (sym (rw e refl) ∙ h))

  -- past the last one there is none
  pub live_past : length fs ≤ n → live fs n ≡ None
  live_past l = rw (slice_get_past fs n l) refl

-- ---- where a feature stands

-- an element before the end
pub got_within : {X : Type 0} (xs : List X) (i : ℕ) → i < length xs → (x : X) × (slice_get xs i ≡ Some x)
got_within [] i l = absurd (omega (arith, l))
got_within (x ∷ xs) zero l = (x, refl)
got_within (x ∷ xs) (suc i) l = got_within xs i (omega (arith, l))

module _ {A : Type 0} where
  -- the number stands in the layer
  pub under_in : (l : Layer A) (at n : ℕ) → Contains (numbers_under (Some l) at) n → In n (numbers_in l.geometry)
  under_in l at n = by l.geometry refl
    where
      slots : (ss : Vec (Slot A) A) (o : Option (Slot A)) → slice_get ss.items at ≡ o
          → Contains (numbers_under (Some (record { name = l.name; geometry = geometry.Items ss })) at) n
          → In n (flat_map numbers_at ss.items)
      slots ss None e h = absurd (contains_in [] n (rw e at h))
      slots ss (Some s) e h = in-flat_map numbers_at s n ss.items (slice-in ss.items at s e) (contains_in (numbers_at s) n (rw e at h))

      by : (g : Geometry A) → l.geometry ≡ g → Contains (numbers_under (Some l) at) n → In n (numbers_in l.geometry)
      by (geometry.Alone m) e h = rw e (contains_in (m ∷ []) n (rw e at h))
      by (geometry.Items ss) e h = rw e (slots ss (slice_get ss.items at) refl (rw e at h))

  -- and in a layer of the frame
  pub stands_in : (ls : List (Layer A)) (n : ℕ) (s : Stand) → StandsAt ls n s
      → (l : Layer A) × (slice_get ls s.layer ≡ Some l) × In n (numbers_in l.geometry)
  stands_in ls n s h = by (slice_get ls s.layer) refl
    where
      by : (o : Option (Layer A)) → slice_get ls s.layer ≡ o
          → (l : Layer A) × (slice_get ls s.layer ≡ Some l) × In n (numbers_in l.geometry)
      by None e = absurd (contains_in [] n (rw e at h))
      by (Some l) e = (l, e, under_in l s.slot n (rw e at h))

module _ {A : Type 0} (t : Tables A) (k : IsFramed t) where
  -- where the number stands
  pub stand_there : (n : ℕ) → n < length t.features.items → (s : Stand) × (slice_get t.stands.items n ≡ Some s)
  stand_there n l = got_within t.stands.items n (subst (λ z. n < z) (sym k.alike) l)

  -- a number of the table is among all
  pub number_stands : (n : ℕ) → n < length t.features.items → In n (all_numbers t.layers.items)
  number_stands n l =
      let at = stand_there n l in
      let s = stands_in t.layers.items n at.0 (k.standing n at.0 at.1) in
      in-flat_map (λ l. numbers_in l.geometry) s.0 n t.layers.items (slice-in t.layers.items at.0.layer s.0 s.1) s.2
