-- Copies of the tables hold the same.
use Rattle.kit_words.proofs.Common.{◌≡◌, ℕ, zero, suc, Option, Some, None, is_some, List, [], ◌∷◌, map, Contains}
use Rattle.kit_words.proofs.Common.{get_or, refl, sym, ap, ap₂, subst, AllZip}
use Rattle.slab.specs.Slab.{Slab, get, IsSlabClone, IsSlotClone}
use Rattle.arc_tables.specs.Common.{Arc, Ring, Stand, Tables, path_in, users_in, uses_in, store, SamePaths, SameUsers}
use Rattle.arc_tables.specs.Common.{SameRings, SameKeys, ListsMore, Sound, rings_of}
use Rattle.arc_tables.proofs.Moves.{keeps_same}
use Rattle.arc_tables.proofs.RingLemmas.{rings_kept}
use Rattle.arc_tables.proofs.WholeLemmas.{whole_same}

module _ {T : Type 0} (is_clone : T → T → Type 0) where
  cloned_place : (xs ys : List (Option T)) (k : ℕ) → AllZip (IsSlotClone is_clone) xs ys → IsSlotClone is_clone (get_or xs k None) (get_or ys k None)
  cloned_place [] [] k h = refl
  cloned_place [] (y ∷ ys) k h = absurd h
  cloned_place (x ∷ xs) [] k h = absurd h
  cloned_place (x ∷ xs) (y ∷ ys) zero h = h.0
  cloned_place (x ∷ xs) (y ∷ ys) (suc k) h = cloned_place xs ys k h.1

  cloned_at : (s t : Slab T) → IsSlabClone is_clone s t → (k : ℕ) → IsSlotClone is_clone (get s k) (get t k)
  cloned_at s t c k = cloned_place s.slots t.slots k c.slots

  -- what is alike in an element and its clone
  cloned_as : {B : Type 0} (f : Option T → B) → ((v w : T) → is_clone v w → f (Some w) ≡ f (Some v)) → (s t : Slab T) → IsSlabClone is_clone s t → (k : ℕ) → f (get t k) ≡ f (get s k)
  cloned_as f alike s t c k = by (get s k) (get t k) (cloned_at s t c k)
    where
      by : (o p : Option T) → IsSlotClone is_clone o p → f p ≡ f o
      by None p h = ap f h
      by (Some v) None h = absurd h
      by (Some v) (Some w) h = alike v w h

cloned_lists : {is_clone : Stand → Stand → Type 0} → ((s t : Stand) → is_clone s t → t.arcs.items ≡ s.arcs.items) → (ss ts : List Stand) → AllZip is_clone ss ts
    → map (λ s. s.arcs.items) ts ≡ map (λ s. s.arcs.items) ss
cloned_lists same [] [] h = refl
cloned_lists same [] (t ∷ ts) h = absurd h
cloned_lists same (s ∷ ss) [] h = absurd h
cloned_lists same (s ∷ ss) (t ∷ ts) h = ap₂ (λ x xs. x ∷ xs) (same s t h.0) (cloned_lists same ss ts h.1)

-- copies have the same keys, rings, uses and arcs
pub cloned_stands : {is_clone : Stand → Stand → Type 0} (ss ts : List Stand) → AllZip is_clone ss ts → ((s t : Stand) → is_clone s t → t.arcs.items ≡ s.arcs.items) → ListsMore ss ts
cloned_stands ss ts h same j m c = subst (λ ls. Contains (get_or ls j []) m) (sym (cloned_lists same ss ts h)) c

module _ {A : Type 0} where
  pub cloned_arcs : {is_clone : Arc A → Arc A → Type 0} (s t : Slab (Arc A)) → IsSlabClone is_clone s t
      → ((arc copy : Arc A) → is_clone arc copy → (copy.keys.items ≡ arc.keys.items) × (copy.rings.items ≡ arc.rings.items)) → SamePaths s t × SameUsers s t
  cloned_arcs {is_clone} s t c same = (
    cloned_as is_clone path_in (λ v w h. (same v w h).0) s t c,
    record { there = cloned_as is_clone is_some (λ v w h. refl) s t c; users = cloned_as is_clone users_in (λ v w h. (same v w h).1) s t c },
  )

  pub cloned_rings : {is_clone : Ring A → Ring A → Type 0} (s t : Slab (Ring A)) → IsSlabClone is_clone s t
      → ((ring copy : Ring A) → is_clone ring copy → copy.uses.items ≡ ring.uses.items) → SameRings s t × SameKeys s t
  cloned_rings {is_clone} s t c same = (cloned_as is_clone uses_in same s t c, cloned_as is_clone is_some (λ v w h. refl) s t c)

  pub copy_sound : (s t : Tables A) → SamePaths s.arcs t.arcs × SameUsers s.arcs t.arcs → SameRings s.rings t.rings → ListsMore s.stands.items t.stands.items → Sound s → Sound t
  copy_sound s t arcs rings more h = record {
    whole = whole_same s t arcs.0 arcs.1 rings more h.whole;
    once = (keeps_same (store s) (store t) arcs.0 rings).once h.once;
  }

  pub copy_rings : (s t : Tables A) → SamePaths s.arcs t.arcs → SameRings s.rings t.rings × SameKeys s.rings t.rings → rings_of t ≡ rings_of s
  copy_rings s t paths rings = rings_kept s t rings.1 (keeps_same (store s) (store t) paths rings.0)
