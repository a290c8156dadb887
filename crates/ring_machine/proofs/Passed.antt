-- Edges that two rings both pass, and the way in which each passes them.
use Rattle.kit_words.proofs.Common.{◌≡◌, ◌≤◌, Bool, true, false, refl, sym, ap, ap₂, ◌∙◌, subst, List, [], ◌∷◌, ◌++◌}
use Rattle.kit_words.proofs.Common.{map, append_assoc, ◌||◌, ◌&&◌, ◌⊎◌, inl, inr, arith, list_any, list_all, append-nil}
use Rattle.grid_geometry.specs.Common.{Position, Segment, segment_eq, Edge, edges}
use Rattle.grid_geometry.proofs.Common.{segment-comm}
use Rattle.ring_machine.specs.Common.{is_distinct, segment_of, segments, Chain, is_common}
use Rattle.ring_machine.proofs.Orders.{segment_ordered}
use Rattle.ring_machine.proofs.Edges.{starts}
use Rattle.ring_machine.proofs.Arcs.{flip, is_of}
use Rattle.ring_machine.proofs.RingSegments.{same_ends, segment_eq-true}
use Rattle.ring_machine.proofs.Once.{one, times}
use Rattle.ring_machine.proofs.Spots.{Rotated}
use Rattle.ring_machine.proofs.First.{In, in_right}
use Rattle.ring_machine.proofs.Members.{in_mapped, any_in, in_any}
use Rattle.ring_machine.proofs.Neighbours.{in-map}
use Rattle.ring_machine.proofs.Distinct.{first_once, distinct_rest}
use Rattle.ring_machine.proofs.Cycles.{Cycle, cycle_rotated, in_rotated}

-- ---- tests of each element

pub pass_all : {A : Type 0} (c : A → Bool) (xs : List A) → ((x : A) → In x xs → c x ≡ true)
    → list_all c xs ≡ true
pass_all c [] h = refl
pass_all c (x ∷ xs) h = ap₂ (λ y z. y && z) (h x (inl refl)) (pass_all c xs (λ y i. h y (inr i)))

pub pass_none : {A : Type 0} (c : A → Bool) (xs : List A) → ((x : A) → In x xs → c x ≡ false)
    → list_any c xs ≡ false
pass_none c [] h = refl
pass_none c (x ∷ xs) h = ap₂ (λ y z. y || z) (h x (inl refl)) (pass_none c xs (λ y i. h y (inr i)))

-- ---- an edge by where it begins or ends

module _ (k : Edge → Position) where
  pub same_key : (es : List Edge) (e f : Edge) → is_distinct (map k es) ≡ true → In e es → In f es
      → k e ≡ k f → e ≡ f
  same_key [] e f d h l s = absurd h
  same_key (x ∷ es) e f d (inl a) (inl b) s = sym a ∙ b
  same_key (x ∷ es) e f d (inr a) (inr b) s = same_key es e f (distinct_rest (k x) (map k es) d) a b s
  same_key (x ∷ es) e f d (inl a) (inr b) s = absurd (first_once (k x) (map k es) d (subst (λ p. In p (map k es)) (sym s ∙ ap k (sym a)) (in-map k f es b)))
  same_key (x ∷ es) e f d (inr a) (inl b) s = absurd (first_once (k x) (map k es) d (subst (λ p. In p (map k es)) (s ∙ ap k (sym b)) (in-map k e es a)))

  pub not_again : (es : List Edge) (e : Edge) (fs : List Edge) → is_distinct (map k (es ++ e ∷ fs))
      ≡ true
      → In e es → ⊥
  not_again [] e fs d h = h
  not_again (x ∷ es) e fs d (inl a) = first_once (k x) (map k (es ++ e ∷ fs)) d (in-map k x (es ++ e ∷ fs) (in_right x es (e ∷ fs) (inl (sym a))))
  not_again (x ∷ es) e fs d (inr a) = not_again es e fs (distinct_rest (k x) (map k (es ++ e ∷ fs)) d) a

-- ---- common edges

-- an edge whose segment is one of the ring is passed by it in one of the two directions
pub common_in : (ring : List Position) (e : Edge) → is_common ring e ≡ true
    → In e (edges ring) ⊎ In (flip e) (edges ring)
common_in ring e h =
    let a = any_in (segment_eq (segment_of e)) (segments ring) h in
    let b = in_mapped segment_of a.0 (edges ring) a.1 in
    elim (same_ends e b.0 (segment_eq-true (segment_of e) a.0 a.2 ∙ sym b.2)) [
      | inl s ↦ inl (subst (λ z. In z (edges ring)) (λ i. (s.0 i, s.1 i)) b.1)
      | inr s ↦ inr (subst (λ z. In z (edges ring)) (λ i. (s.0 i, s.1 i)) b.1)
    ]

pub in_common : (ring : List Position) (e : Edge) → In e (edges ring) → is_common ring e ≡ true
in_common ring e h = in_any (segment_eq (segment_of e)) (segment_of e) (segments ring) (in-map segment_of e (edges ring) h) (segment_ordered.eq-refl (segment_of e))

pub common-flip : (ring : List Position) (e : Edge) → is_common ring (flip e) ≡ is_common ring e
common-flip ring e = ap (λ s. list_any (segment_eq s) (segments ring)) (segment-comm e.1 e.0)

pub flip_common : (ring : List Position) (e : Edge) → In (flip e) (edges ring)
    → is_common ring e ≡ true
flip_common ring e h = sym (common-flip ring e) ∙ in_common ring (flip e) h

-- ---- how often

pub times_in : (e : Edge) (es : List Edge) → In e es → 1 ≤ times (segment_of e) es
times_in e [] h = absurd h
times_in e (f ∷ es) (inl a) = omega (arith, ap one (ap (λ z. is_of (segment_of e) z) a ∙ segment_ordered.eq-refl (segment_of e)))
times_in e (f ∷ es) (inr i) = omega (arith, times_in e es i)

-- an edge and the next one are not of one segment
no_back : (e f : Edge) (es : List Edge) → ((t : Segment) → times t (e ∷ f ∷ es) ≤ 1) → e.1 ≡ f.0
    → e.0 ≡ f.1 → ⊥
no_back e f es once a b =
    let first : is_of (segment_of e) e ≡ true = segment_ordered.eq-refl (segment_of e) in
    let back : f ≡ flip e = λ i. (sym a i, sym b i) in
    let second : is_of (segment_of e) f ≡ true = ap (is_of (segment_of e)) back ∙ ap (λ s. segment_eq s (segment_of e)) (segment-comm e.1 e.0) ∙ first in
    omega (arith, once (segment_of e), ap one first, ap one second)

-- ---- a way along common edges

module _ (os : List Edge) (cycle : Cycle os) where
  -- both pass the first alike: both pass each alike
  pub alike_along : (e : Edge) (es : List Edge) (q : Position) → Chain e.1 es q
      → ((t : Segment) → times t (e ∷ es) ≤ 1) → In e os
      → ((x : Edge) → In x es → In x os ⊎ In (flip x) os) → (x : Edge) → In x (e ∷ es) → In x os
  alike_along e es q h once first each x (inl i) = subst (λ z. In z os) i first
  alike_along e [] q h once first each x (inr i) = absurd i
  alike_along e (f ∷ es) q h once first each x (inr i) =
      alike_along f es q h.1 (λ t. omega (arith, once t)) (elim (each f (inl refl)) [
        | inl j ↦ j
        | inr j ↦ absurd (no_back e f es once (sym h.0) (ap (λ (z : Edge). z.0) (same_key (λ z. z.1) os e (flip f) cycle.ends_once first j (sym h.0))))
      ]) (λ y j. each y (inr j)) x i

  -- one passes the first in reverse: it passes each in reverse
  pub reverse_along : (e : Edge) (es : List Edge) (q : Position) → Chain e.1 es q
      → ((t : Segment) → times t (e ∷ es) ≤ 1) → In (flip e) os
      → ((x : Edge) → In x es → In x os ⊎ In (flip x) os) → (x : Edge) → In x (e ∷ es)
      → In (flip x) os
  reverse_along e es q h once first each x (inl i) = subst (λ z. In (flip z) os) i first
  reverse_along e [] q h once first each x (inr i) = absurd i
  reverse_along e (f ∷ es) q h once first each x (inr i) =
      reverse_along f es q h.1 (λ t. omega (arith, once t)) (elim (each f (inl refl)) [
        | inr j ↦ j
        | inl j ↦ absurd (no_back e f es once (sym h.0) (ap (λ (z : Edge). z.1) (same_key (λ z. z.0) os (flip e) f cycle.starts_once first j (sym h.0))))
      ]) (λ y j. each y (inr j)) x i

-- ---- a way of edges of a cycle is a part of it

way_on : (done fs xs : List Edge) (p q z : Position) → Chain p fs q → Chain p xs z
    → is_distinct (starts (done ++ fs)) ≡ true → is_distinct (starts (done ++ xs)) ≡ true
    → ((x : Edge) → In x xs → In x (done ++ fs)) → (g : List Edge) × (fs ≡ xs ++ g)
way_on done fs [] p q z h k d e all = (fs, refl)
way_on done [] (x ∷ xs) p q z h k d e all = absurd (not_again (λ y. y.0) done x xs e (subst (In x) (append-nil done) (all x (inl refl))))
way_on done (f ∷ fs) (x ∷ xs) p q z h k d e all =
    let same : x ≡ f = same_key (λ y. y.0) (done ++ f ∷ fs) x f d (all x (inl refl)) (in_right f done (f ∷ fs) (inl refl)) (k.0 ∙ sym h.0) in
    let left = append_assoc done (f ∷ []) fs in
    let r = way_on (done ++ f ∷ []) fs xs f.1 q z h.1 (subst (λ y. Chain y xs z) (ap (λ (y : Edge). y.1) same) k.1)
    (ap (λ y. is_distinct (starts y)) left ∙ d)
    (ap (λ y. is_distinct (starts y)) (append_assoc done (f ∷ []) xs ∙ ap (λ y. done ++ y ∷ xs) (sym same)) ∙ e)
    (λ y i. subst (In y) (sym left) (all y (inr i))) in
    (r.0, ap₂ (λ y w. y ∷ w) (sym same) r.1)

pub in_split : {A : Type 0} (x : A) (xs : List A) → In x xs
    → (us : List A) × (vs : List A) × (xs ≡ us ++ x ∷ vs)
in_split x [] h = absurd h
in_split x (y ∷ xs) (inl e) = ([], xs, ap (λ z. z ∷ xs) e)
in_split x (y ∷ xs) (inr i) = let r = in_split x xs i in (y ∷ r.0, r.1, ap (λ z. y ∷ z) r.2)

pub way_of : (os : List Edge) → Cycle os → (x : Edge) (xs : List Edge) (z : Position)
    → Chain x.1 xs z
    → is_distinct (starts (x ∷ xs)) ≡ true → ((y : Edge) → In y (x ∷ xs) → In y os)
    → (g : List Edge) × Rotated os ((x ∷ xs) ++ g)
way_of os c x xs z h d all =
    let s = in_split x os (all x (inl refl)) in
    let turned : Rotated os ((x ∷ s.1) ++ s.0) = record { us = s.0; vs = x ∷ s.1; from = s.2; to = refl } in
    let c' = cycle_rotated os ((x ∷ s.1) ++ s.0) turned c in
    let w = way_on [] ((x ∷ s.1) ++ s.0) (x ∷ xs) x.0 c'.at z (refl, c'.chain.1) (refl, h) c'.starts_once d
    (λ y i. in_rotated os ((x ∷ s.1) ++ s.0) y turned (all y i)) in
    (w.0, subst (Rotated os) {y = (x ∷ xs) ++ w.0} w.1 turned)
