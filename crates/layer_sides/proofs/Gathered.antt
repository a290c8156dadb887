-- The segments of polygons with their numbers, and how often they stand there.
use Rattle.kit_words.proofs.Common.{◌≡◌, ◌+◌, ◌<◌, ℕ, suc, Bool, true, false, refl, sym, ap, ap₂, ◌∙◌, subst, cond}
use Rattle.kit_words.proofs.Common.{List, [], ◌∷◌, ◌++◌, map, take, length, get_or, inl, inr, ◌&&◌, ◌==◌, not, arith}
use Rattle.kit_words.proofs.Common.{and_parts, or_parts, not-true, flat_map, list_all, map-append, Decides-eqb}
use Rattle.kit_words.proofs.Common.{append-nil, append_assoc, length-map, length-take-le, mapped_more, Vec}
use Rattle.grid_geometry.specs.Common.{Position, position_eq, Edge, edges, Segment, segment_eq, xor}
use Rattle.ring_machine.specs.Common.{has, is_distinct, is_ring, segment_of, segments}
use Rattle.ring_machine.proofs.Common.{edges_to, edges_is, In, position_eq-sym, ring_long, ring_distinct, xor-none}
use Rattle.ring_parts.specs.Common.{rings_seen, polygons_seen}
use Rattle.layer_sides.specs.Common.{Polygon, is_bounding}
use Rattle.layer_sides.specs.declared.standing.Standing.{Standing}
use Rattle.layer_sides.specs.Standing.{stands, stands_at, standing_in, standing_from, standing_eq}
use Rattle.layer_sides.proofs.Odds.{odd, odd-append, odd-map, odd-only, odd_count}
use Rattle.layer_sides.proofs.Numbers.{test_from, none_less, differ}

-- ---- the ends of the edges of a ring differ

way_differs : (q : Position) (ps : List Position) → is_distinct ps ≡ true → has ps q ≡ false → (e : Edge) → In e (edges_to q ps)
    → position_eq e.0 e.1 ≡ false
way_differs q [] d h e i = absurd i
way_differs q (p ∷ []) d h e (inl f) =
    subst (λ z. position_eq z.0 z.1 ≡ false) f (position_eq-sym p q ∙ (or_parts (position_eq q p) (has [] q) h).0)
way_differs q (p ∷ []) d h e (inr i) = absurd i
way_differs q (p ∷ r ∷ ps) d h e (inl f) =
    let away = not-true (has (r ∷ ps) p) (and_parts (not (has (r ∷ ps) p)) (is_distinct (r ∷ ps)) d).0 in
    subst (λ z. position_eq z.0 z.1 ≡ false) f (or_parts (position_eq p r) (has ps p) away).0
way_differs q (p ∷ r ∷ ps) d h e (inr i) =
    way_differs q (r ∷ ps) (and_parts (not (has (r ∷ ps) p)) (is_distinct (r ∷ ps)) d).1 (or_parts (position_eq q p) (has (r ∷ ps) q) h).1 e i

ring_differs : (ring : List Position) → is_ring ring ≡ true → (e : Edge) → In e (edges ring) → position_eq e.0 e.1 ≡ false
ring_differs [] r e i = absurd i
ring_differs (p ∷ []) r e i = absurd (omega (arith, ring_long (p ∷ []) r))
ring_differs (p ∷ q ∷ ps) r e i =
    let d = ring_distinct (p ∷ q ∷ ps) r in
    let away = not-true (has (q ∷ ps) p) (and_parts (not (has (q ∷ ps) p)) (is_distinct (q ∷ ps)) d).0 in
    first_or_other d away (subst (In e) (edges_is p (q ∷ ps)) i)
  where
    first_or_other : is_distinct (p ∷ q ∷ ps) ≡ true → has (q ∷ ps) p ≡ false → In e (edges_to p (p ∷ q ∷ ps)) → position_eq e.0 e.1 ≡ false
    first_or_other d away (inl f) = subst (λ z. position_eq z.0 z.1 ≡ false) f (or_parts (position_eq p q) (has ps p) away).0
    first_or_other d away (inr j) = way_differs p (q ∷ ps) (and_parts (not (has (q ∷ ps) p)) (is_distinct (q ∷ ps)) d).1 away e j

-- ---- as segments

edges_stand : (n : ℕ) (es : List Edge) → ((e : Edge) → In e es → position_eq e.0 e.1 ≡ false) → flat_map (stands_at n) es ≡ map (stands n) (map segment_of es)
edges_stand n [] h = refl
edges_stand n (e ∷ es) h =
    ap₂ (λ t z. cond {A = List Standing} t [] (stands n (segment_of e) ∷ []) ++ z) (h e (inl refl)) (edges_stand n es (λ f i. h f (inr i)))

polygon_stands : (n : ℕ) (p : Polygon) → list_all is_ring p ≡ true → standing_in n p ≡ map (stands n) (flat_map segments p)
polygon_stands n [] h = refl
polygon_stands n (r ∷ rs) h =
    let k = and_parts (is_ring r) (list_all is_ring rs) h in
    ap₂ (λ y z. y ++ z) (edges_stand n (edges r) (ring_differs r k.0)) (polygon_stands n rs k.1)
    ∙ sym (map-append (stands n) (segments r) (flat_map segments rs))

-- ---- how often they stand there

odd_in : (n k : ℕ) (s : Segment) (p : Polygon) → list_all is_ring p ≡ true
    → odd (standing_eq (stands k s)) (standing_in n p) ≡ (is_bounding p s && k == n)
odd_in n k s p h =
    ap (odd (standing_eq (stands k s))) (polygon_stands n p h)
    ∙ odd-map (standing_eq (stands k s)) (stands n) (flat_map segments p)
    ∙ odd-only (k == n) (segment_eq s) (flat_map segments p)
    ∙ ap (λ b. b && k == n) (sym (odd_count (segment_eq s) (flat_map segments p)))

pub standing_odd : (n : ℕ) (ps : List Polygon) → list_all (list_all is_ring) ps ≡ true → (k : ℕ) (s : Segment)
    → odd (standing_eq (stands k s)) (standing_from n ps) ≡ test_from n (λ p. is_bounding p s) ps k
standing_odd n [] h k s = refl
standing_odd n (p ∷ ps) h k s =
    let r = and_parts (list_all is_ring p) (list_all (list_all is_ring) ps) h in
    odd-append (standing_eq (stands k s)) (standing_in n p) (standing_from (suc n) ps)
    ∙ ap₂ xor (odd_in n k s p r.0) (standing_odd (suc n) ps r.1 k s)
    ∙ by (n == k) refl
  where
    by : (e : Bool) → (n == k) ≡ e
        → xor (is_bounding p s && k == n) (test_from (suc n) (λ q. is_bounding q s) ps k)
        ≡ cond e (is_bounding p s) (test_from (suc n) (λ q. is_bounding q s) ps k)
    by true e =
        let same : n ≡ k = (Decides-eqb n k).0 e in
        ap₂ (λ y z. xor (is_bounding p s && y) z) ((Decides-eqb k n).1 (sym same))
        (none_less (suc n) (λ q. is_bounding q s) ps k (omega (arith, same)))
        ∙ xor-none (is_bounding p s && true) ∙ all (is_bounding p s)
      where
        all : (b : Bool) → (b && true) ≡ b
        all true = refl
        all false = refl
    by false e =
        ap (λ y. xor (is_bounding p s && y) (test_from (suc n) (λ q. is_bounding q s) ps k)) (differ k n (λ f. apart (sym f)))
        ∙ ap (λ y. xor y (test_from (suc n) (λ q. is_bounding q s) ps k)) (none (is_bounding p s))
      where
        apart : n ≡ k → ⊥
        apart f = absurd (false_is_true (sym e ∙ (Decides-eqb n k).1 f))
          where
            false_is_true : false ≡ true → ⊥
            false_is_true g = cc

        none : (b : Bool) → (b && false) ≡ false
        none true = refl
        none false = refl

-- ---- one polygon more

pub standing-append : (n : ℕ) (ps : List Polygon) (p : Polygon) → standing_from n (ps ++ p ∷ []) ≡ standing_from n ps ++ standing_in (n + length ps) p
standing-append n [] p =
    let e : n + 0 ≡ n = omega arith in
    append-nil (standing_in n p) ∙ sym (ap (λ z. standing_in z p) e)
standing-append n (q ∷ ps) p =
    let e : suc n + length ps ≡ n + length (q ∷ ps) = omega arith in
    ap (λ z. standing_in n q ++ z) (standing-append (suc n) ps p ∙ ap (λ z. standing_from (suc n) ps ++ standing_in z p) e)
    ∙ sym (append_assoc (standing_in n q) (standing_from (suc n) ps) (standing_in (n + length (q ∷ ps)) p))

pub standing_next : {A : Type 0} (polygons : List (Vec (Vec Position A) A)) (i n : ℕ) (p : Vec (Vec Position A) A) (before after : List Standing)
    → i < length polygons → p ≡ get_or polygons i p → n ≡ i → before ≡ standing_from 0 (polygons_seen (take i polygons))
    → after ≡ before ++ standing_in n (rings_seen p.items) → after ≡ standing_from 0 (polygons_seen (take (i + 1) polygons))
standing_next {A} polygons i n p before after l e same so_far is =
    let seen : Vec (Vec Position A) A → Polygon = λ polygon. rings_seen polygon.items in
    let number : n ≡ 0 + length (map seen (take i polygons)) =
    omega (arith, same, length-map (take i polygons) seen, length-take-le i polygons (omega (arith, l))) in
    is ∙ ap₂ (λ y z. y ++ standing_in z (rings_seen p.items)) so_far number
    ∙ sym (standing-append 0 (map seen (take i polygons)) (rings_seen p.items))
    ∙ ap (standing_from 0) (sym (mapped_more seen polygons i p l e))
