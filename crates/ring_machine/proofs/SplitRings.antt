-- The two parts of a ring that a path cuts are rings.
use Rattle.kit_words.proofs.Common.{◌≡◌, ◌≤◌, ◌+◌, Bool, true, false, refl, sym, ap, ap₂, ◌∙◌, subst, List, [], ◌∷◌}
use Rattle.kit_words.proofs.Common.{◌++◌, length, reverse, append_assoc, ◌||◌, ◌&&◌, inl, arith, not, list_any}
use Rattle.kit_words.proofs.Common.{false≢true, length-append, reverse-append, length-reverse, list_any-append, or_comm}
use Rattle.kit_words.proofs.Common.{list_any-IsPermutation, IsPermutation-reverse, and_parts, or_parts, not-true}
use Rattle.grid_geometry.specs.Common.{Position, position_eq, segment_eq, Edge, edges, links}
use Rattle.grid_geometry.proofs.Common.{segment-comm}
use Rattle.ring_machine.specs.Common.{canonical, has, is_distinct, is_ring, segments, segment_of, Path, first_part}
use Rattle.ring_machine.specs.Common.{second_part, positions_of}
use Rattle.ring_machine.proofs.CutRings.{CutRing, cut_ring, first_is, second_is, rotated_edges}
use Rattle.ring_machine.proofs.First.{In}
use Rattle.ring_machine.proofs.Members.{in_swap, in_any}
use Rattle.ring_machine.proofs.Neighbours.{in-map}
use Rattle.ring_machine.proofs.Order.{position_eq-refl}
use Rattle.ring_machine.proofs.Removal.{position_eq-sym}
use Rattle.ring_machine.proofs.Spots.{Rotated, rotated-trans}
use Rattle.ring_machine.proofs.StaysRing.{canonical_is_ring, distinct_swap}

-- ---- distinct positions

-- a turned list has the same elements
pub any_turned : {A : Type 0} (test : A → Bool) (xs ys : List A) → Rotated xs ys
    → list_any test xs ≡ list_any test ys
any_turned test xs ys r =
    ap (list_any test) r.from ∙ list_any-append test r.us r.vs
    ∙ or_comm (list_any test r.us) (list_any test r.vs)
    ∙ sym (ap (list_any test) r.to ∙ list_any-append test r.vs r.us)

pub any_reversed : {A : Type 0} (test : A → Bool) (xs : List A)
    → list_any test (reverse xs) ≡ list_any test xs
any_reversed test xs = sym (list_any-IsPermutation test xs (reverse xs) (IsPermutation-reverse xs))

pub distinct_left : (us vs : List Position) → is_distinct (us ++ vs) ≡ true → is_distinct us ≡ true
distinct_left [] vs d = refl
distinct_left (u ∷ us) vs d =
    let d' = and_parts (not (has (us ++ vs) u)) (is_distinct (us ++ vs)) d in
    ap₂ (λ a b. not a && b) (or_parts (has us u) (has vs u) (sym (list_any-append (position_eq u) us vs) ∙ not-true _ d'.0)).0 (distinct_left us vs d'.1)

none_of_more : (u : Position) (us vs : List Position) → list_any (has (u ∷ us)) vs ≡ false
    → (has vs u ≡ false) × (list_any (has us) vs ≡ false)
none_of_more u us [] h = (refl, refl)
none_of_more u us (v ∷ vs) h =
    let h' = or_parts (has (u ∷ us) v) (list_any (has (u ∷ us)) vs) h in
    let here = or_parts (position_eq v u) (has us v) h'.0 in
    let rest = none_of_more u us vs h'.1 in
    (ap₂ (λ a b. a || b) (position_eq-sym u v ∙ here.0) rest.0, ap₂ (λ a b. a || b) here.1 rest.1)

distinct_both : (us vs : List Position) → is_distinct us ≡ true → is_distinct vs ≡ true
    → list_any (has us) vs ≡ false → is_distinct (us ++ vs) ≡ true
distinct_both [] vs d e h = e
distinct_both (u ∷ us) vs d e h =
    let d' = and_parts (not (has us u)) (is_distinct us) d in
    let h' = none_of_more u us vs h in
    ap₂ (λ a b. not a && b) (list_any-append (position_eq u) us vs ∙ ap₂ (λ a b. a || b) (not-true _ d'.0) h'.0) (distinct_both us vs d'.1 e h'.1)

pub distinct_reversed : (ps : List Position) → is_distinct ps ≡ true → is_distinct (reverse ps) ≡ true
distinct_reversed [] d = refl
distinct_reversed (p ∷ ps) d =
    let d' = and_parts (not (has ps p)) (is_distinct ps) d in
    ap is_distinct (reverse-append (p ∷ []) ps)
    ∙ distinct_swap (p ∷ []) (reverse ps) (ap₂ (λ a b. not a && b) (any_reversed (position_eq p) ps ∙ not-true _ d'.0) (distinct_reversed ps d'.1))

-- none of us ++ vs, so none of us
none_of_left : (us vs ws : List Position) → list_any (has (us ++ vs)) ws ≡ false
    → list_any (has us) ws ≡ false
none_of_left us vs [] h = refl
none_of_left us vs (w ∷ ws) h =
    let h' = or_parts (has (us ++ vs) w) (list_any (has (us ++ vs)) ws) h in
    ap₂ (λ a b. a || b) (or_parts (has us w) (has vs w) (sym (list_any-append (position_eq w) us vs) ∙ h'.0)).0 (none_of_left us vs ws h'.1)

-- ---- one part

-- from p over xs to q, and over new positions back
part_is_ring : (p : Position) (xs : List Position) (q : Position) (ys inner : List Position)
    → is_distinct (p ∷ xs ++ q ∷ ys) ≡ true → is_distinct inner ≡ true
    → list_any (has (p ∷ xs ++ q ∷ ys)) inner ≡ false → 1 ≤ length xs + length inner
    → is_ring (canonical (p ∷ xs ++ q ∷ inner)) ≡ true
part_is_ring p xs q ys inner d e h l =
    let whole : p ∷ xs ++ q ∷ ys ≡ (p ∷ xs ++ q ∷ []) ++ ys = sym (append_assoc (p ∷ xs) (q ∷ []) ys) in
    canonical_is_ring (p ∷ xs ++ q ∷ inner) (omega (arith, l, length-append xs (q ∷ inner)))
    (ap is_distinct (sym (append_assoc (p ∷ xs) (q ∷ []) inner))
    ∙ distinct_both (p ∷ xs ++ q ∷ []) inner (distinct_left (p ∷ xs ++ q ∷ []) ys (ap is_distinct (sym whole) ∙ d)) e
    (none_of_left (p ∷ xs ++ q ∷ []) ys inner (ap (λ z. list_any (has z) inner) (sym whole) ∙ h)))

-- ---- no segment of the path is one of the ring

-- the segment from a to b is one of the ring's
abbrev pub is_edge_of : List Position → Edge → Bool
is_edge_of ring e = list_any (segment_eq (segment_of e)) (segments ring)

segment_eq-refl : (e : Edge) → segment_eq (segment_of e) (segment_of e) ≡ true
segment_eq-refl e = ap₂ (λ a b. a && b) (position_eq-refl (segment_of e).lo) (position_eq-refl (segment_of e).hi)

-- neighbours in the ring
neighbours : (ring : List Position) (p q : Position) (rest : List Position)
    → Rotated ring (p ∷ q ∷ rest) → is_edge_of ring (p, q) ≡ true
neighbours ring p q rest r =
    let turned = rotated_edges ring (p ∷ q ∷ rest) r in
    let here : In (p, q) (edges ring) = subst (In (p, q)) (sym turned.from) (in_swap (p, q) turned.vs turned.us (subst (In (p, q)) turned.to (inl refl))) in
    in_any (segment_eq (segment_of (p, q))) (segment_of (p, q)) (segments ring) (in-map segment_of (p, q) (edges ring) here) (segment_eq-refl (p, q))

-- so a part of two positions of the ring has others
one_between : (ring : List Position) (p : Position) (xs : List Position) (q : Position) (ys inner : List Position)
    → Rotated ring (p ∷ xs ++ q ∷ ys)
    → list_any (is_edge_of ring) (links (p ∷ inner ++ q ∷ [])) ≡ false → 1 ≤ length xs + length inner
one_between ring p [] q ys [] r h = absurd (false≢true (sym (or_parts (is_edge_of ring (p, q)) false h).0 ∙ neighbours ring p q ys r))
one_between ring p (x ∷ xs) q ys inner r h = omega arith
one_between ring p [] q ys (i ∷ inner) r h = omega arith

one_between_back : (ring : List Position) (p : Position) (xs : List Position) (q : Position) (ys inner : List Position)
    → Rotated ring (q ∷ ys ++ p ∷ xs)
    → list_any (is_edge_of ring) (links (p ∷ inner ++ q ∷ [])) ≡ false → 1 ≤ length ys + length inner
one_between_back ring p xs q [] [] r h = absurd (false≢true (sym (or_parts (is_edge_of ring (p, q)) false h).0 ∙ ap (λ s. list_any (segment_eq s) (segments ring)) (segment-comm p q) ∙ neighbours ring q p xs r))
one_between_back ring p xs q (y ∷ ys) inner r h = omega arith
one_between_back ring p xs q [] (i ∷ inner) r h = omega arith

-- ---- both parts

-- the path begins and ends at two positions of the ring, and leaves it in between
pub record CutsRing (ring : List Position) (path : Path) : Type 0 where
  pub formed : is_ring ring ≡ true
  pub first : has ring path.first ≡ true
  pub last : has ring path.last ≡ true
  pub distinct : is_distinct (positions_of path) ≡ true
  pub free : list_any (has ring) path.inner ≡ false
  pub new : list_any (is_edge_of ring) (links (positions_of path)) ≡ false

-- the ends of a path without repetition are two
pub ends_differ : (path : Path) → is_distinct (positions_of path) ≡ true
    → position_eq path.first path.last ≡ false
ends_differ path d =
    let away = and_parts (not (has (path.inner ++ path.last ∷ []) path.first)) (is_distinct (path.inner ++ path.last ∷ [])) d in
    let parts = or_parts (has path.inner path.first) (has (path.last ∷ []) path.first) (sym (list_any-append (position_eq path.first) path.inner (path.last ∷ [])) ∙ not-true _ away.0) in
    (or_parts (position_eq path.first path.last) false parts.1).0

inner_distinct : (path : Path) → is_distinct (positions_of path) ≡ true → is_distinct path.inner ≡ true
inner_distinct path d =
    distinct_left path.inner (path.last ∷ []) (and_parts (not (has (path.inner ++ path.last ∷ []) path.first)) (is_distinct (path.inner ++ path.last ∷ [])) d).1

module _ (ring : List Position) (path : Path) (c : CutsRing ring path) where
  pub cut_of : CutRing ring path.first path.last
  cut_of = cut_ring ring path.first path.last c.formed c.first c.last (ends_differ path c.distinct)

  free_of : (ps inner : List Position) → Rotated ring ps → list_any (has ring) inner ≡ false
      → list_any (has ps) inner ≡ false
  free_of ps [] r h = refl
  free_of ps (i ∷ inner) r h =
      let h' = or_parts (has ring i) (list_any (has ring) inner) h in
      ap₂ (λ a b. a || b) (sym (any_turned (position_eq i) ring ps r) ∙ h'.0) (free_of ps inner r h'.1)

  other_way : Rotated ring (path.last ∷ cut_of.ys ++ path.first ∷ cut_of.xs)
  other_way = rotated-trans ring (path.first ∷ cut_of.xs ++ path.last ∷ cut_of.ys) _ cut_of.turned (record { us = path.first ∷ cut_of.xs; vs = path.last ∷ cut_of.ys; from = refl; to = refl })

  pub first_part_is_ring : is_ring (canonical (first_part ring path)) ≡ true
  first_part_is_ring =
      let k = cut_of in
      ap (λ z. is_ring (canonical z)) (first_is ring path k)
      ∙ part_is_ring path.first k.xs path.last k.ys (reverse path.inner) k.distinct (distinct_reversed path.inner (inner_distinct path c.distinct))
      (any_reversed (has (path.first ∷ k.xs ++ path.last ∷ k.ys)) path.inner ∙ free_of _ path.inner k.turned c.free)
      (omega (arith, length-reverse path.inner, one_between ring path.first k.xs path.last k.ys path.inner k.turned c.new))

  pub second_part_is_ring : is_ring (canonical (second_part ring path)) ≡ true
  second_part_is_ring =
      let k = cut_of in
      ap (λ z. is_ring (canonical z)) (second_is ring path k)
      ∙ part_is_ring path.last k.ys path.first k.xs path.inner (distinct_swap (path.first ∷ k.xs) (path.last ∷ k.ys) k.distinct) (inner_distinct path c.distinct)
      (free_of _ path.inner other_way c.free)
      (one_between_back ring path.first k.xs path.last k.ys path.inner other_way c.new)
