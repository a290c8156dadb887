-- Slots and keys that mirror each other, and what keeps them so.
use Rattle.kit_words.proofs.Common.{◌≡◌, ◌≢◌, ◌↔◌, ℕ, zero, suc, ◌<◌, Bool, true, false, cond, ◌&&◌, List, [], ◌∷◌}
use Rattle.kit_words.proofs.Common.{length, set, Option, Some, None, IfSome, IfNone, is_some, refl, sym, ap, ◌∙◌, subst}
use Rattle.kit_words.proofs.Common.{arith, nat_cmp, int_eq, eq_by_cmp, false≢true, signed_Decides, AllZip, Bor, MutBor}
use Rattle.kit_words.proofs.Common.{option_copied, option_copied_mut, nat_tests, get_or-set_same, get_or-set_other}
use Rattle.kit_words.proofs.Common.{same_from_all_zip, ℕ_discrete}
use Rattle.std.specs.Cmp.{IsEquivalence}
use Rattle.std.specs.FinMap as map
use Rattle.std.specs.Map.{keys_of}
use Rattle.std.proofs.lemmas.Map.Views.{IsSome-lookup_from_Contains, Contains-keys_from_lookup}
use Rattle.slab.specs.Slab as slab
use Rattle.grid_geometry.specs.Common.{Position, InRange, position_eq}
use Rattle.grid_geometry.proofs.Common.{position_eq-same as position_eq-refl}
use Rattle.vertex_index.specs.Common.{Placement, IsOccupied, AreDistinct, AreInRange, ArePlaces, Slot, placement_of, in_slot}
use Rattle.vertex_index.specs.Common.{key_in, Mirrors}
use Rattle.vertex_index.proofs.PlacementLemmas.{get-placement_of}

-- ---- equal positions

pub position_eq-same : (p q : Position) → position_eq p q ≡ true → p ≡ q
position_eq-same p q h = by (int_eq p.x q.x) (int_eq p.y q.y) refl refl h
  where
    by : (a b : Bool) → int_eq p.x q.x ≡ a → int_eq p.y q.y ≡ b → (a && b) ≡ true → p ≡ q
    by true true ea eb e =
        let ex = (signed_Decides p.x q.x).0 ea in
        let ey = (signed_Decides p.y q.y).0 eb in
        λ i. record { x = ex i; y = ey i }
    by true false ea eb e = cc
    by false b ea eb e = cc

-- equality of positions is an equivalence
position_equality : IsEquivalence position_eq
position_equality = record {
  refl = position_eq-refl;
  symm = λ p q. both p q (position_eq p q) (position_eq q p) refl refl;
  congr = λ p q r e. ap (λ z. position_eq z r) (position_eq-same p q e);
}
  where
    both : (p q : Position) (a b : Bool) → position_eq p q ≡ a → position_eq q p ≡ b → a ≡ b
    both p q true true e f = refl
    both p q false false e f = refl
    both p q true false e f =
        absurd (false≢true (sym f ∙ ap (position_eq q) (position_eq-same p q e) ∙ position_eq-refl q))
    both p q false true e f =
        absurd (false≢true (sym e ∙ ap (position_eq p) (position_eq-same q p f) ∙ position_eq-refl p))

-- a position is not told from itself
not_apart : (p q : Position) → Some p ≡ Some q → position_eq p q ≢ false
not_apart p q one ep =
    let pq : p ≡ q = cc in
    let bad : true ≡ false = sym (position_eq-refl p) ∙ ap (position_eq p) pq ∙ ep in absurd (cc)

-- ---- slots and keys together

module _ (s : List (Option Position)) (es : List (Position × ℕ)) (m : Mirrors s es) where
  -- a new position in a slot that had none
  pub Mirrors-add : (t : List (Option Position)) (fs : List (Position × ℕ)) (k : ℕ) (p : Position)
      → InRange p → in_slot s k ≡ None → key_in es p ≡ None
      → in_slot t k ≡ Some p → ((j : ℕ) → j ≢ k → in_slot t j ≡ in_slot s j)
      → ((q : Position) → key_in fs q ≡ cond (position_eq p q) (Some k) (key_in es q))
      → Mirrors t fs
  Mirrors-add t fs k p good vacant new here others found = record {
    there = λ j q e. there j q e (eq_by_cmp nat_cmp j k) refl (position_eq p q) refl;
    back = λ q j e. back q j e (position_eq p q) refl;
    range = λ j q e. range j q e (eq_by_cmp nat_cmp j k) refl;
  }
    where
      range : (j : ℕ) (q : Position) → in_slot t j ≡ Some q → (b : Bool) → eq_by_cmp nat_cmp j k ≡ b
          → InRange q
      range j q e true ej =
          let at_k : j ≡ k = grind (arith, nat_tests) in
          let one : Some p ≡ Some q = sym here ∙ ap (in_slot t) (sym at_k) ∙ e in
          let same : p ≡ q = cc in
          subst InRange same good
      range j q e false ej = m.range j q (sym (others j (grind (arith, nat_tests))) ∙ e)

      found_if : (q : Position) (c : Bool) → position_eq p q ≡ c
          → key_in fs q ≡ cond c (Some k) (key_in es q)
      found_if q c ep = found q ∙ ap (λ b. cond b (Some k) (key_in es q)) ep

      there : (j : ℕ) (q : Position) → in_slot t j ≡ Some q → (b : Bool) → eq_by_cmp nat_cmp j k ≡ b
          → (c : Bool) → position_eq p q ≡ c → key_in fs q ≡ Some j
      there j q e true ej true ep =
          let at_k : j ≡ k = grind (arith, nat_tests) in
          found_if q true ep ∙ ap (λ n. Some n) (sym at_k)
      there j q e true ej false ep =
          let at_k : j ≡ k = grind (arith, nat_tests) in
          absurd (not_apart p q (sym here ∙ ap (in_slot t) (sym at_k) ∙ e) ep)
      there j q e false ej true ep =
          let kept = m.there j q (sym (others j (grind (arith, nat_tests))) ∙ e) in
          let bad : None ≡ Some j = sym new ∙ ap (key_in es) (position_eq-same p q ep) ∙ kept in cc
      there j q e false ej false ep =
          found_if q false ep ∙ m.there j q (sym (others j (grind (arith, nat_tests))) ∙ e)

      back : (q : Position) (j : ℕ) → key_in fs q ≡ Some j → (c : Bool) → position_eq p q ≡ c
          → in_slot t j ≡ Some q
      back q j e true ep =
          let kj : Some k ≡ Some j = sym (found_if q true ep) ∙ e in
          let at_k : k ≡ j = cc in
          ap (in_slot t) (sym at_k) ∙ here ∙ ap (λ r. Some r) (position_eq-same p q ep)
      back q j e false ep =
          let was = m.back q j (sym (found_if q false ep) ∙ e) in
          let elsewhere : j ≢ k = λ at_k.
          let bad : None ≡ Some q = sym vacant ∙ ap (in_slot s) (sym at_k) ∙ was in
          absurd (let b : ⊥ = cc in b)
          in others j elsewhere ∙ was

  -- a position that stood in a slot goes
  pub Mirrors-remove : (t : List (Option Position)) (fs : List (Position × ℕ)) (k : ℕ)
      (p : Position) → in_slot s k ≡ Some p
      → in_slot t k ≡ None → ((j : ℕ) → j ≢ k → in_slot t j ≡ in_slot s j)
      → ((q : Position) → key_in fs q ≡ cond (position_eq p q) None (key_in es q))
      → Mirrors t fs
  Mirrors-remove t fs k p was here others found = record {
    there = λ j q e. there j q e (eq_by_cmp nat_cmp j k) refl (position_eq p q) refl;
    back = λ q j e. back q j e (position_eq p q) refl;
    range = λ j q e. range j q e (eq_by_cmp nat_cmp j k) refl;
  }
    where
      range : (j : ℕ) (q : Position) → in_slot t j ≡ Some q → (b : Bool) → eq_by_cmp nat_cmp j k ≡ b
          → InRange q
      range j q e true ej =
          let at_k : j ≡ k = grind (arith, nat_tests) in
          let bad : None ≡ Some q = sym here ∙ ap (in_slot t) (sym at_k) ∙ e in
          absurd (let b : ⊥ = cc in b)
      range j q e false ej = m.range j q (sym (others j (grind (arith, nat_tests))) ∙ e)

      found_if : (q : Position) (c : Bool) → position_eq p q ≡ c
          → key_in fs q ≡ cond c None (key_in es q)
      found_if q c ep = found q ∙ ap (λ b. cond b None (key_in es q)) ep

      there : (j : ℕ) (q : Position) → in_slot t j ≡ Some q → (b : Bool) → eq_by_cmp nat_cmp j k ≡ b
          → (c : Bool) → position_eq p q ≡ c → key_in fs q ≡ Some j
      there j q e true ej c ep =
          let at_k : j ≡ k = grind (arith, nat_tests) in
          let bad : None ≡ Some q = sym here ∙ ap (in_slot t) (sym at_k) ∙ e in cc
      there j q e false ej true ep =
          let elsewhere : j ≢ k = grind (arith, nat_tests) in
          let kept = m.there j q (sym (others j elsewhere) ∙ e) in
          let kj : Some k ≡ Some j =
          sym (m.there k p was) ∙ ap (key_in es) (position_eq-same p q ep) ∙ kept in
          let at_k : j ≡ k = cc in
          absurd (elsewhere at_k)
      there j q e false ej false ep =
          found_if q false ep ∙ m.there j q (sym (others j (grind (arith, nat_tests))) ∙ e)

      back : (q : Position) (j : ℕ) → key_in fs q ≡ Some j → (c : Bool) → position_eq p q ≡ c
          → in_slot t j ≡ Some q
      back q j e true ep = let bad : None ≡ Some j = sym (found_if q true ep) ∙ e in cc
      back q j e false ep =
          let stood = m.back q j (sym (found_if q false ep) ∙ e) in
          let elsewhere : j ≢ k = λ at_k.
          not_apart p q (sym was ∙ ap (in_slot s) (sym at_k) ∙ stood) ep
          in others j elsewhere ∙ stood

-- ---- what a look-up tells

pub IsSome-copied : {X : Type 0} (o : Option (Bor X))
    → is_some (option_copied o) ≡ true → is_some o ≡ true
IsSome-copied None h = h
IsSome-copied (Some x) h = refl

pub IsSome-copied_mut : {X : Type 0} (o : Option (MutBor X))
    → is_some (option_copied_mut o) ≡ true → is_some o ≡ true
IsSome-copied_mut None h = h
IsSome-copied_mut (Some x) h = refl

-- ---- what the keys say of a position, the map says

module _ (s : List (Option Position)) (es : List (Position × ℕ)) (m : Mirrors s es)
    (v : Placement) (view_is : placement_of s ≡ v) where
  in_map : (k : ℕ) → in_slot s k ≡ map.get v k
  in_map k = sym (get-placement_of s k) ∙ ap (λ w. map.get w k) view_is

  -- the slot of a key has what the map has
  pub slot_has : (k i : ℕ) → i ≡ k → in_slot s i ≡ map.get v k
  slot_has k i same = ap (in_slot s) same ∙ in_map k

  pub free : (p : Position) → key_in es p ≡ None → (k : ℕ) → map.get v k ≢ Some p
  free p none k e =
      let bad : None ≡ Some k = sym none ∙ m.there k p (in_map k ∙ e) in
      absurd (let b : ⊥ = cc in b)

  pub found_key : (p : Position) (o : Option ℕ) → o ≡ key_in es p
      → IfSome o (λ k. map.get v k ≡ Some p)
  found_key p None e = tt
  found_key p (Some k) e = sym (in_map k) ∙ m.back p k (sym e)

  pub absent_key : (p : Position) (o : Option ℕ) → o ≡ key_in es p
      → IfNone o ((k : ℕ) → map.get v k ≢ Some p)
  absent_key p None e = free p (sym e)
  absent_key p (Some k) e = tt

  occupied : (p : Position) → is_some (key_in es p) ≡ true → IsOccupied v p
  occupied p h = by (key_in es p) refl h
    where
      by : (o : Option ℕ) → o ≡ key_in es p → is_some o ≡ true → IsOccupied v p
      by None e i = cc
      by (Some k) e i = (k, found_key p (Some k) e)

  -- the keys are the positions of all vertices
  pub are_places : ArePlaces v (keys_of es)
  are_places p = (
    λ i. occupied p (IsSome-lookup_from_Contains position_equality p es i),
    λ stands.
        Contains-keys_from_lookup position_eq-same p es
        (ap is_some (m.there stands.0 p (in_map stands.0 ∙ stands.1))),
  )

  -- an answer that comes exactly where a vertex stands: the keys have the position, or not
  pub refuses : {R : Type 0} (p : Position) → is_some (key_in es p) ≡ true → R → R ↔ IsOccupied v p
  refuses p h r = (λ _. occupied p h, λ _. r)

  pub accepts : {R : Type 0} (p : Position) → key_in es p ≡ None → (R → ⊥)
      → R ↔ IsOccupied v p
  accepts p none not_so = (λ r. absurd (not_so r), λ stands. absurd (free p none stands.0 stands.1))

  -- no two keys have the same position, since each is the key of it
  pub distinct : AreDistinct v
  distinct j k p ej ek =
      let key_j : key_in es p ≡ Some j = m.there j p (in_map j ∙ ej) in
      let key_k : key_in es p ≡ Some k = m.there k p (in_map k ∙ ek) in
      let jk : Some j ≡ Some k = sym key_j ∙ key_k in cc

  -- each position is in range, since it stands in a slot
  pub in_range : AreInRange v
  in_range k p e = m.range k p (in_map k ∙ e)

-- ---- a position put into a slot that has one

within : (l : List (Option Position)) (k : ℕ) (p : Position) → in_slot l k ≡ Some p → k < length l
within [] k p e = cc
within (x ∷ l) zero p e = omega arith
within (x ∷ l) (suc k) p e = omega (arith, within l k p e)

pub set_here : (l : List (Option Position)) (k : ℕ) (p q : Position) → in_slot l k ≡ Some p
    → in_slot (set l k (Some q)) k ≡ Some q
set_here l k p q e = get_or-set_same l k (Some q) None (within l k p e)

pub set_others : (l : List (Option Position)) (k : ℕ) (q : Position) → (j : ℕ) → j ≢ k
    → in_slot (set l k (Some q)) j ≡ in_slot l j
set_others l k q j elsewhere = get_or-set_other l k j (Some q) None elsewhere

-- the keys took it in, and then let the other go
module _ (s : List (Option Position)) (es : List (Position × ℕ)) (m : Mirrors s es)
    (fs gs : List (Position × ℕ)) (k : ℕ) (p q : Position)
    (was : in_slot s k ≡ Some p) (new : key_in es q ≡ None)
    (gone : (r : Position) → key_in gs r ≡ cond (position_eq p r) None (key_in fs r))
    (came : (r : Position) → key_in fs r ≡ cond (position_eq q r) (Some k) (key_in es r)) where
  abbrev t : List (Option Position)
  t = set s k (Some q)

  -- what the keys have after both
  let_go : (r : Position) → position_eq p r ≡ true → key_in gs r ≡ None
  let_go r pr = gone r ∙ ap (λ b. cond b None (key_in fs r)) pr

  taken_in : (r : Position) → position_eq p r ≡ false → position_eq q r ≡ true → key_in gs r ≡ Some k
  taken_in r pr qr =
      gone r ∙ ap (λ b. cond b None (key_in fs r)) pr ∙ came r
      ∙ ap (λ b. cond b (Some k) (key_in es r)) qr

  as_before : (r : Position) → position_eq p r ≡ false → position_eq q r ≡ false
      → key_in gs r ≡ key_in es r
  as_before r pr qr =
      gone r ∙ ap (λ b. cond b None (key_in fs r)) pr ∙ came r
      ∙ ap (λ b. cond b (Some k) (key_in es r)) qr

  -- the slot has the new position, and each other slot what it had
  only_q : (j : ℕ) (r : Position) → in_slot t j ≡ Some r → j ≡ k → q ≡ r
  only_q j r e at_k =
      let one : Some q ≡ Some r = sym (set_here s k p q was) ∙ ap (in_slot t) (sym at_k) ∙ e in cc

  stood : (j : ℕ) (r : Position) → in_slot t j ≡ Some r → j ≢ k → in_slot s j ≡ Some r
  stood j r e ne = sym (set_others s k q j ne) ∙ e

  shifted_there : (j : ℕ) (r : Position) → in_slot t j ≡ Some r → Dec (j ≡ k)
      → (c : Bool) → position_eq p r ≡ c → (d : Bool) → position_eq q r ≡ d → key_in gs r ≡ Some j
  shifted_there j r e (yes at_k) true pr d qr =
      let same : p ≡ q = position_eq-same p r pr ∙ sym (only_q j r e at_k) in
      let bad : None ≡ Some k = sym new ∙ ap (key_in es) (sym same) ∙ m.there k p was in cc
  shifted_there j r e (yes at_k) false pr true qr = taken_in r pr qr ∙ ap (λ n. Some n) (sym at_k)
  shifted_there j r e (yes at_k) false pr false qr =
      absurd (not_apart q r (ap (λ x. Some x) (only_q j r e at_k)) qr)
  shifted_there j r e (no ne) true pr d qr =
      let kj : Some k ≡ Some j =
      sym (m.there k p was) ∙ ap (key_in es) (position_eq-same p r pr) ∙ m.there j r (stood j r e ne) in
      let at_k : j ≡ k = cc in
      absurd (ne at_k)
  shifted_there j r e (no ne) false pr true qr =
      let bad : None ≡ Some j =
      sym new ∙ ap (key_in es) (position_eq-same q r qr) ∙ m.there j r (stood j r e ne) in cc
  shifted_there j r e (no ne) false pr false qr = as_before r pr qr ∙ m.there j r (stood j r e ne)

  shifted_back : (r : Position) (j : ℕ) → key_in gs r ≡ Some j
      → (c : Bool) → position_eq p r ≡ c → (d : Bool) → position_eq q r ≡ d → in_slot t j ≡ Some r
  shifted_back r j e true pr d qr = let bad : None ≡ Some j = sym (let_go r pr) ∙ e in cc
  shifted_back r j e false pr true qr =
      let kj : Some k ≡ Some j = sym (taken_in r pr qr) ∙ e in
      let at_k : k ≡ j = cc in
      ap (in_slot t) (sym at_k) ∙ set_here s k p q was ∙ ap (λ x. Some x) (position_eq-same q r qr)
  shifted_back r j e false pr false qr =
      let stands = m.back r j (sym (as_before r pr qr) ∙ e) in
      set_others s k q j (λ at_k. not_apart p r (sym was ∙ ap (in_slot s) (sym at_k) ∙ stands) pr) ∙ stands

  shifted_range : InRange q → (j : ℕ) (r : Position) → in_slot t j ≡ Some r → Dec (j ≡ k) → InRange r
  shifted_range good j r e (yes at_k) = subst InRange (only_q j r e at_k) good
  shifted_range good j r e (no ne) = m.range j r (stood j r e ne)

  pub Mirrors-shift : InRange q → Mirrors (set s k (Some q)) gs
  Mirrors-shift good = record {
    there = λ j r e. shifted_there j r e (ℕ_discrete j k) (position_eq p r) refl (position_eq q r) refl;
    back = λ r j e. shifted_back r j e (position_eq p r) refl (position_eq q r) refl;
    range = λ j r e. shifted_range good j r e (ℕ_discrete j k);
  }

-- ---- clones

slot_same : (x y : Option Slot) → slab.IsSlotClone (λ p q. q ≡ p) x y → y ≡ x
slot_same None y e = e
slot_same (Some p) None e = absurd e
slot_same (Some p) (Some q) e = ap (λ r. Some r) e

-- a clone of the slots is the same slots
pub slots-clone : (s t : List (Option Slot))
    → AllZip (slab.IsSlotClone (λ p q. q ≡ p)) s t → s ≡ t
slots-clone s t h = sym (same_from_all_zip _ s t h slot_same)

-- and of the entries
pub entries-clone : (es fs : List (Position × ℕ))
    → AllZip (λ (p : Position × ℕ) (q : Position × ℕ). (q.0 ≡ p.0) × (q.1 ≡ p.1)) es fs → es ≡ fs
entries-clone es fs h = sym (same_from_all_zip _ es fs h (λ x y e. λ i. (e.0 i, e.1 i)))
