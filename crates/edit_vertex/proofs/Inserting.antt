-- What an insertion is refused by, from how many rings have the segment and how large the map is.
use Rattle.kit_words.proofs.Common.{◌≡◌, ◌+◌, ◌-◌, ◌<◌, ◌≤◌, Bool, true, false, refl, sym, ap, ap₂, ◌∙◌, subst, ℕ, List}
use Rattle.kit_words.proofs.Common.{[], ◌∷◌, length, Option, Some, inl, inr, arith, not, nat_lt, false≢true, and_parts}
use Rattle.kit_words.proofs.Common.{or_parts, not-true, lt-ltb, le-leb, lt-leb, kept_any}
use Rattle.grid_geometry.specs.Common.{Position, position_eq, Segment, segment, Edge, edges}
use Rattle.ring_machine.specs.Common.{has, is_ring, is_distinct, segment_of, Document, rings, size, is_vertex}
use Rattle.ring_machine.specs.Common.{is_segment, ins, Proper, first_pair, insert_sweeps, Refusal, NoSegment, Occupied}
use Rattle.ring_machine.specs.Common.{TooLarge, Sweeps, ◌unless◌, first_of, planar, is_small, insert_refusals}
use Rattle.ring_machine.proofs.Common.{is_of, edges_to, edges_is, In, all_in, position_eq-refl}
use Rattle.ring_machine.proofs.Common.{same_ends, segment_eq-true, ring_distinct, any_in}
use Rattle.arc_store.specs.Common.{Refuses, users}
use Rattle.arc_store.specs.declared.fault.EditFault.{EditFault}
use Rattle.arc_store.proofs.Common.{has_segment, has_segment_by, is_segment_by, size_ins}
use Rattle.edit_vertex.specs.Common.{needs_no_pairs}
use Rattle.edit_vertex.proofs.Late.{is_late, late_end, late_fault}

-- ---- the segment

-- it is one of the document where some ring has it
pub segment_used : (d : Document) (s : Segment) → nat_lt 0 (length (users d s)) ≡ is_segment d s
segment_used d s = kept_any (has_segment s) (rings d) ∙ sym (is_segment_by d s)

-- how many rings have the segment, as it was asked
pub used_times : (d : Document) (s t : Segment) (n : ℕ) → t ≡ s → n ≡ length (users d t)
    → n ≡ length (users d s)
used_times d s t n is h = h ∙ ap (λ z. length (users d z)) is

pub used_border : (d : Document) (s : Segment) (n : ℕ) → n ≡ length (users d s) → (n ≡ 0 → ⊥)
    → is_segment d s ≡ true
used_border d s n h some =
    let more : 0 < length (users d s) = omega (arith, h, some) in
    sym (segment_used d s) ∙ lt-ltb 0 (length (users d s)) more

pub unused_border : (d : Document) (s : Segment) (n : ℕ) → n ≡ length (users d s) → n ≡ 0
    → is_segment d s ≡ false
unused_border d s n h none = sym (segment_used d s) ∙ ap (nat_lt 0) (sym h ∙ none)

differ : (p q : Position) → position_eq p q ≡ false → p ≡ q → ⊥
differ p q h e = false≢true (sym h ∙ ap (λ z. position_eq z q) e ∙ position_eq-refl q)

-- the ends of an edge differ, on the way over different positions to another one
apart_to : (q : Position) (ps : List Position) → is_distinct ps ≡ true → has ps q ≡ false
    → (e : Edge) → In e (edges_to q ps) → e.0 ≡ e.1 → ⊥
apart_to q [] d h e i k = absurd i
apart_to q (r ∷ []) d h e (inl i) k =
    differ q r (or_parts (position_eq q r) (has [] q) h).0 (ap (λ (f : Edge). f.1) i ∙ sym k ∙ sym (ap (λ (f : Edge). f.0) i))
apart_to q (r ∷ []) d h e (inr i) k = absurd i
apart_to q (r ∷ s ∷ ps) d h e (inl i) k =
    let lacks = not-true (has (s ∷ ps) r) (and_parts (not (has (s ∷ ps) r)) (is_distinct (s ∷ ps)) d).0 in
    differ r s (or_parts (position_eq r s) (has ps r) lacks).0 (ap (λ (f : Edge). f.0) i ∙ k ∙ sym (ap (λ (f : Edge). f.1) i))
apart_to q (r ∷ s ∷ ps) d h e (inr i) k =
    apart_to q (s ∷ ps) (and_parts (not (has (s ∷ ps) r)) (is_distinct (s ∷ ps)) d).1 (or_parts (position_eq q r) (has (s ∷ ps) q) h).1 e i k

-- the ends of an edge of a ring differ
ring_apart : (ring : List Position) → is_ring ring ≡ true → (e : Edge) → In e (edges ring)
    → e.0 ≡ e.1 → ⊥
ring_apart [] r e i k = absurd i
ring_apart (x ∷ []) r e i k = absurd (false≢true r)
ring_apart (x ∷ y ∷ ps) r e i k = by (subst (In e) (edges_is x (y ∷ ps)) i)
  where
    d : is_distinct (x ∷ y ∷ ps) ≡ true
    d = ring_distinct (x ∷ y ∷ ps) r

    lacks : has (y ∷ ps) x ≡ false
    lacks = not-true (has (y ∷ ps) x) (and_parts (not (has (y ∷ ps) x)) (is_distinct (y ∷ ps)) d).0

    by : In e ((x, y) ∷ edges_to x (y ∷ ps)) → ⊥
    by (inl j) = differ x y (or_parts (position_eq x y) (has ps x) lacks).0 (ap (λ (f : Edge). f.0) j ∙ k ∙ sym (ap (λ (f : Edge). f.1) j))
    by (inr j) = apart_to x (y ∷ ps) (and_parts (not (has (y ∷ ps) x)) (is_distinct (y ∷ ps)) d).1 lacks e j k

-- no segment goes from a position to itself
pub no_loop : (d : Document) (a : Position) → Proper d → is_segment d (segment a a) ≡ false
no_loop d a proper = by (is_segment d (segment a a)) refl
  where
    by : (t : Bool) → is_segment d (segment a a) ≡ t → is_segment d (segment a a) ≡ false
    by false h = h
    by true h =
        let ring = any_in (has_segment (segment a a)) (rings d) (sym (is_segment_by d (segment a a)) ∙ h) in
        let e = any_in (is_of (segment a a)) (edges ring.0) (sym (has_segment_by (segment a a) ring.0) ∙ ring.2) in
        let same = segment_eq-true (segment_of e.0) (segment a a) e.2 in
        absurd (ring_apart ring.0 (all_in is_ring (rings d) ring.0 proper.are_rings ring.1) e.0 e.1 (elim (same_ends (a, a) e.0 (sym same)) [
          | inl m ↦ m.0 ∙ sym m.1
          | inr m ↦ m.0 ∙ sym m.1
        ]))

-- ---- the size

pub size_grown : (d : Document) (a b q : Position) → Proper d
    → size (ins d a b q) ≡ size d + length (users d (segment a b))
size_grown d a b q proper = size_ins d a b q (λ ring i. all_in is_ring (rings d) ring proper.are_rings i)

pub size_fits : (d : Document) (a b q : Position) → Proper d
    → length (users d (segment a b)) ≤ 4000000 - size d → 0 < length (users d (segment a b))
    → size (ins d a b q) ≤ 4000000
size_fits d a b q proper h k = omega (arith, size_grown d a b q proper, h, k)

size_over : (d : Document) (a b q : Position) → Proper d
    → 4000000 - size d < length (users d (segment a b)) → 4000000 < size (ins d a b q)
size_over d a b q proper h = omega (arith, size_grown d a b q proper, h)

-- ---- the refusal

-- the first refusal by the answers
abbrev insert_by : Option Refusal → Bool → Bool → Bool → Bool → Option Refusal
insert_by conflict sweeps border occupied small = first_of (
    NoSegment unless border
    ∷ Occupied unless not occupied
    ∷ TooLarge unless small
    ∷ conflict
    ∷ Sweeps unless not sweeps
    ∷ []
    )

module _ (d : Document) (a b q : Position) where
  abbrev by : Bool → Bool → Bool → Option Refusal
  by border occupied small =
      insert_by (planar (ins d a b q)) (insert_sweeps d a b q) border occupied small

  pub insert_no_segment : is_segment d (segment a b) ≡ false
      → first_of (insert_refusals d a b q) ≡ Some NoSegment
  unfolding insert_refusals
  insert_no_segment h = ap (λ s. by s (is_vertex d q) (is_small (ins d a b q))) h

  pub insert_occupied : is_segment d (segment a b) ≡ true → is_vertex d q ≡ true
      → first_of (insert_refusals d a b q) ≡ Some Occupied
  unfolding insert_refusals
  insert_occupied h k = ap₂ (λ s v. by s v (is_small (ins d a b q))) h k

  pub insert_too_large : Proper d → is_segment d (segment a b) ≡ true → is_vertex d q ≡ false
      → 4000000 - size d < length (users d (segment a b))
      → first_of (insert_refusals d a b q) ≡ Some TooLarge
  unfolding insert_refusals
  insert_too_large proper h k l =
      ap₂ (λ s v. by s v (is_small (ins d a b q))) h k
      ∙ ap (λ z. by true false z) (lt-leb (size (ins d a b q)) 4000000 (size_over d a b q proper l))

  pub insert_late : is_segment d (segment a b) ≡ true → is_vertex d q ≡ false
      → size (ins d a b q) ≤ 4000000 → (fault : EditFault)
      → Refuses fault (first_of (insert_refusals d a b q)) → needs_no_pairs fault ≡ false
  unfolding insert_refusals
  insert_late h k l fault r =
      let small = le-leb (size (ins d a b q)) 4000000 l in
      late_fault fault (first_of (insert_refusals d a b q))
      (ap is_late (ap₂ (λ s v. by s v (is_small (ins d a b q))) h k ∙ ap (λ z. by true false z) small) ∙ late_end (first_pair (ins d a b q)) (not (insert_sweeps d a b q))) r
