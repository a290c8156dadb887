-- An accepted edit of a vertex gives a proper document.
use Rattle.kit_words.proofs.Common.{◌≡◌, ◌≤◌, ◌+◌, ℕ, Bool, true, false, refl, ap, ap₂, ◌∙◌, subst, cond, List, [], ◌∷◌}
use Rattle.kit_words.proofs.Common.{map, length, ◌||◌, ◌&&◌, arith, None, not, nat_le, nat_lt, list_any, list_all}
use Rattle.kit_words.proofs.Common.{flat_map, false≢true, length-map, and_parts, or_parts, not-true}
use Rattle.grid_geometry.specs.Common.{Position, position_eq, Segment, segment, Edge, edges}
use Rattle.ring_machine.specs.Common.{has, is_distinct, is_ring, begins_least, Document, rings, is_vertex, put, ins}
use Rattle.ring_machine.specs.Common.{del, put_ring, ins_ring, del_ring, Proper, first_pair, are_long}
use Rattle.ring_machine.proofs.Order.{position_eq-true}
use Rattle.ring_machine.proofs.Arcs.{is_of}
use Rattle.ring_machine.proofs.Edges.{edges_is, edges_to}
use Rattle.ring_machine.proofs.Removal.{others, filter_lacks}
use Rattle.ring_machine.proofs.StaysRing.{canonical_is_ring, put-distinct, del-distinct, ins-distinct}
use Rattle.ring_machine.proofs.RingSegments.{ring_once}
use Rattle.ring_machine.proofs.RingsOf.{rings-in_rings}

pub at_least : (n : ℕ) → nat_le 3 n ≡ true → 3 ≤ n
at_least n h = grind arith

-- the parts of being a ring
pub ring_long : (ring : List Position) → is_ring ring ≡ true → 3 ≤ length ring
ring_long ring h = at_least (length ring) (and_parts (nat_le 3 (length ring)) (is_distinct ring && begins_least ring) h).0

pub ring_distinct : (ring : List Position) → is_ring ring ≡ true → is_distinct ring ≡ true
ring_distinct ring h = (and_parts (is_distinct ring) (begins_least ring) (and_parts (nat_le 3 (length ring)) (is_distinct ring && begins_least ring) h).1).0

-- ---- one ring

put_is_ring : (p q : Position) (ring : List Position) → is_ring ring ≡ true → has ring q ≡ false
    → is_ring (put_ring p q ring) ≡ true
put_is_ring p q ring h k =
    canonical_is_ring (map (λ r. cond (position_eq r p) q r) ring) (omega (arith, ring_long ring h, length-map ring (λ r. cond (position_eq r p) q r))) (put-distinct p q ring k (ring_distinct ring h))

pub others_long : (p : Position) (ps : List Position) → is_distinct ps ≡ true
    → length ps ≤ length (others p ps) + 1
others_long p [] d = omega arith
others_long p (x ∷ ps) d =
    let d' = and_parts (not (has ps x)) (is_distinct ps) d in
    by (position_eq x p) refl (not-true _ d'.0) (others_long p ps d'.1)
  where
    by : (t : Bool) → position_eq x p ≡ t → has ps x ≡ false → length ps ≤ length (others p ps) + 1
        → length (x ∷ ps) ≤ length (cond (not t) (x ∷ others p ps) (others p ps)) + 1
    by true e k h = omega (arith, ap length (filter_lacks p ps (subst (λ z. has ps z ≡ false) (position_eq-true x p e) k)))
    by false e k h = omega (arith, h)

pub del_is_ring : (p : Position) (ring : List Position) → is_ring ring ≡ true
    → (not (has ring p) || nat_lt 3 (length ring)) ≡ true → is_ring (del_ring p ring) ≡ true
del_is_ring p ring h k = by (has ring p) refl k
  where
    by : (t : Bool) → has ring p ≡ t → (not t || nat_lt 3 (length ring)) ≡ true
        → is_ring (del_ring p ring) ≡ true
    by false e m = canonical_is_ring (others p ring) (omega (arith, ring_long ring h, ap length (filter_lacks p ring e))) (del-distinct p ring (ring_distinct ring h))
    by true e m = canonical_is_ring (others p ring) (omega (arith, more (length ring) m, others_long p ring (ring_distinct ring h))) (del-distinct p ring (ring_distinct ring h))
      where
        more : (n : ℕ) → nat_lt 3 n ≡ true → 4 ≤ n
        more n m = grind arith

-- ---- q between a and b

starts_are : (q : Position) (ps : List Position) → map (λ e. e.0) (edges_to q ps) ≡ ps
starts_are q [] = refl
starts_are q (p ∷ ps) = ap (λ z. p ∷ z) (starts_are q ps)

pub edges_start : (p : Position) (ps : List Position) → map (λ e. e.0) (edges (p ∷ ps)) ≡ p ∷ ps
edges_start p ps = ap (map (λ e. e.0)) (edges_is p ps) ∙ starts_are p (p ∷ ps)

abbrev pub with_between : Segment → Position → List Edge → List Position
with_between s q es = flat_map (λ e. cond (is_of s e) (e.0 ∷ q ∷ []) (e.0 ∷ [])) es

longer : (s : Segment) (q : Position) (es : List Edge) → length es ≤ length (with_between s q es)
longer s q [] = omega arith
longer s q (e ∷ es) = grind (arith, longer s q es)

pub ins_is_ring : (a b q : Position) (ring : List Position) → is_ring ring ≡ true → has ring q ≡ false
    → is_ring (ins_ring a b q ring) ≡ true
ins_is_ring a b q [] h k = absurd (false≢true h)
ins_is_ring a b q (x ∷ []) h k = absurd (false≢true h)
ins_is_ring a b q (x ∷ y ∷ []) h k = absurd (false≢true h)
ins_is_ring a b q (x ∷ y ∷ z ∷ ps) h k =
    let d = ring_distinct (x ∷ y ∷ z ∷ ps) h in
    let starts = edges_start x (y ∷ z ∷ ps) in
    let es = edges (x ∷ y ∷ z ∷ ps) in
    canonical_is_ring (with_between (segment a b) q es)
    (omega (arith, longer (segment a b) q es, length-map es (λ e. e.0), ap length starts))
    (ins-distinct (is_of (segment a b)) q es (ring_once (segment a b) x y z ps d) (ap (λ l. has l q) starts ∙ k) (ap is_distinct starts ∙ d))

-- ---- every ring

all_changed : {A B : Type 0} (test : A → Bool) (other : B → Bool) (g : A → B)
    → ((a : A) → test a ≡ true → other (g a) ≡ true) → (xs : List A) → list_all test xs ≡ true
    → list_all other (map g xs) ≡ true
all_changed test other g h [] k = refl
all_changed test other g h (x ∷ xs) k = let both = and_parts (test x) (list_all test xs) k in ap₂ (λ y z. y && z) (h x both.0) (all_changed test other g h xs both.1)

all_and_none : {A : Type 0} (test none : A → Bool) (xs : List A) → list_all test xs ≡ true
    → list_any none xs ≡ false → list_all (λ x. test x && not (none x)) xs ≡ true
all_and_none test none [] h k = refl
all_and_none test none (x ∷ xs) h k =
    let h' = and_parts (test x) (list_all test xs) h in
    let k' = or_parts (none x) (list_any none xs) k in
    ap₂ (λ y z. y && z) (ap₂ (λ y z. y && not z) h'.0 k'.0) (all_and_none test none xs h'.1 k'.1)

all_and_all : {A : Type 0} (test more : A → Bool) (xs : List A) → list_all test xs ≡ true
    → list_all more xs ≡ true → list_all (λ x. test x && more x) xs ≡ true
all_and_all test more [] h k = refl
all_and_all test more (x ∷ xs) h k =
    let h' = and_parts (test x) (list_all test xs) h in
    let k' = and_parts (more x) (list_all more xs) k in
    ap₂ (λ y z. y && z) (ap₂ (λ y z. y && z) h'.0 k'.0) (all_and_all test more xs h'.1 k'.1)

pub put_is_proper : (d : Document) (p q : Position) → Proper d → is_vertex d q ≡ false
    → first_pair (put d p q) ≡ None → Proper (put d p q)
put_is_proper d p q proper free apart = record {
  are_rings = ap (list_all is_ring) (rings-in_rings (put_ring p q) d)
      ∙ all_changed (λ ring. is_ring ring && not (has ring q)) is_ring (put_ring p q)
      (λ ring h. let k = and_parts (is_ring ring) (not (has ring q)) h in put_is_ring p q ring k.0 (not-true _ k.1))
      (rings d) (all_and_none is_ring (λ ring. has ring q) (rings d) proper.are_rings free);
  apart = apart;
}

pub ins_is_proper : (d : Document) (a b q : Position) → Proper d → is_vertex d q ≡ false
    → first_pair (ins d a b q) ≡ None → Proper (ins d a b q)
ins_is_proper d a b q proper free apart = record {
  are_rings = ap (list_all is_ring) (rings-in_rings (ins_ring a b q) d)
      ∙ all_changed (λ ring. is_ring ring && not (has ring q)) is_ring (ins_ring a b q)
      (λ ring h. let k = and_parts (is_ring ring) (not (has ring q)) h in ins_is_ring a b q ring k.0 (not-true _ k.1))
      (rings d) (all_and_none is_ring (λ ring. has ring q) (rings d) proper.are_rings free);
  apart = apart;
}

pub del_is_proper : (d : Document) (p : Position) → Proper d → are_long d p ≡ true
    → first_pair (del d p) ≡ None → Proper (del d p)
del_is_proper d p proper long apart = record {
  are_rings = ap (list_all is_ring) (rings-in_rings (del_ring p) d)
      ∙ all_changed (λ ring. is_ring ring && (not (has ring p) || nat_lt 3 (length ring))) is_ring (del_ring p)
      (λ ring h. let k = and_parts (is_ring ring) (not (has ring p) || nat_lt 3 (length ring)) h in del_is_ring p ring k.0 k.1)
      (rings d) (all_and_all is_ring (λ ring. not (has ring p) || nat_lt 3 (length ring)) (rings d) proper.are_rings long);
  apart = apart;
}
