-- What is found in the triangle of a vertex and the two beside it, among the segments near the way to one
-- of these.
use Rattle.kit_words.proofs.Common.{◌≡◌, ℤ, Bool, true, false, not, sym, ap, ◌∙◌, List, [], ◌∷◌, ◌&&◌, ◌||◌, int_le, int_min, int_max}
use Rattle.kit_words.proofs.Common.{arith, ints, clamps, cond, is_gt, list_any, and_parts, or_right}
use Rattle.std.specs.FinSet as set
use Rattle.grid_geometry.specs.Common.{Position, position_cmp, Segment, Box, box_of, boxes_meet, segment, is_held}
use Rattle.ring_machine.specs.Ring as machine
use Rattle.segment_index.specs.Common.{is_within, SegmentSet, has, segment_is, set_of}
use Rattle.segment_index.proofs.Common.{contains-set_of, is-itself, times-some}
use Rattle.local_planarity.specs.Common.{IsEnds, HasNearMove, box_of_three, least_of, most_of}
use Rattle.local_planarity.proofs.Sweeping.{ends_held}

-- ---- one coordinate: r0 r1 of a box, k0 k1 of one that has all three

abbrev stretches : ℤ → ℤ → ℤ → ℤ → Bool
stretches k0 k1 a b = int_le k0 (int_min a b) && int_le (int_max a b) k1

turned : (k0 k1 a b : ℤ) → stretches k0 k1 b a ≡ true → stretches k0 k1 a b ≡ true
turned k0 k1 a b h = grind (arith, ints, clamps)

-- what meets the stretch of three meets one that has them
wider : (r0 r1 k0 k1 a p b : ℤ) → stretches k0 k1 p a ≡ true → stretches k0 k1 a b ≡ true
    → (int_le r0 (most_of a p b) && int_le (least_of a p b) r1) ≡ true
    → (int_le r0 k1 && int_le k0 r1) ≡ true
wider r0 r1 k0 k1 a p b v w m = grind (arith, ints, clamps)

-- ---- boxes

-- a box that has the segment of two positions
has_both : (p a : Position) (k : Box) → is_within (box_of (segment p a)) k ≡ true
    → (stretches k.x0 k.x1 p.x a.x ≡ true) × (stretches k.y0 k.y1 p.y a.y ≡ true)
has_both p a k h = by (is_gt (position_cmp p a)) h
  where
    by : (g : Bool) → is_within (box_of (cond g (record { lo = a; hi = p }) (record { lo = p; hi = a }))) k ≡ true
        → (stretches k.x0 k.x1 p.x a.x ≡ true) × (stretches k.y0 k.y1 p.y a.y ≡ true)
    by true v =
        let both = and_parts (stretches k.x0 k.x1 a.x p.x) (stretches k.y0 k.y1 a.y p.y) v in
        (turned k.x0 k.x1 p.x a.x both.0, turned k.y0 k.y1 p.y a.y both.1)
    by false v = and_parts (stretches k.x0 k.x1 p.x a.x) (stretches k.y0 k.y1 p.y a.y) v

-- what meets the box of p and the ends of t meets one that has t and the way from p to an end
meets_corner : (p : Position) (t : Segment) (r k : Box) → is_within (box_of (segment p t.lo)) k ≡ true
    → is_within (box_of t) k ≡ true → boxes_meet r (box_of_three t.lo p t.hi) ≡ true → boxes_meet r k ≡ true
meets_corner p t r k v w m =
    let way = has_both p t.lo k v in
    let along = and_parts (stretches k.x0 k.x1 t.lo.x t.hi.x) (stretches k.y0 k.y1 t.lo.y t.hi.y) w in
    let both = and_parts (int_le r.x0 (most_of t.lo.x p.x t.hi.x) && int_le (least_of t.lo.x p.x t.hi.x) r.x1) (int_le r.y0 (most_of t.lo.y p.y t.hi.y) && int_le (least_of t.lo.y p.y t.hi.y) r.y1) m in
    λ i. wider r.x0 r.x1 k.x0 k.x1 t.lo.x p.x t.hi.x way.0 along.0 both.0 i && wider r.y0 r.y1 k.y0 k.y1 t.lo.y p.y t.hi.y way.1 along.1 both.1 i

-- ---- the triangle

-- it holds an end of a held segment, but for the three, where it holds one of those near
pub corner_held : (held near : SegmentSet) (p : Position) (t : Segment) → HasNearMove held p t.lo (t ∷ []) near
    → (items : List Segment) (found : Bool) → set_of items ≡ near
    → found ≡ list_any (λ u. (not (machine.has (t.lo ∷ p ∷ t.hi ∷ []) u.lo) && is_held u.lo t.lo p t.hi) || (not (machine.has (t.lo ∷ p ∷ t.hi ∷ []) u.hi) && is_held u.hi t.lo p t.hi)) items
    → (ps : List Position) → IsEnds held ps
    → found ≡ list_any (λ w. not (machine.has (t.lo ∷ p ∷ t.hi ∷ []) w) && is_held w t.lo p t.hi) ps
corner_held held near p t m items found all is ps ends =
    let way = segment p t.lo in
    let lies : (s : Segment) → has (way ∷ t ∷ []) s ≡ true → is_within (box_of s) m.rect ≡ true = λ s h. m.lie s (times-some (way ∷ t ∷ []) s h) in
    let same : (u : Segment) → has items u ≡ set.contains near u = λ u. sym (contains-set_of items u) ∙ ap (λ z. set.contains z u) all in
    ends_held held (t.lo ∷ p ∷ t.hi ∷ []) t.lo p t.hi items ps found
    (λ u j. m.has_near.among u (sym (same u) ∙ j))
    (λ u j k.
    same u
    ∙ m.has_near.covers u j (meets_corner p t (box_of u) m.rect
    (lies way (ap (λ b. b || has (t ∷ []) way) (is-itself way)))
    (lies t (or_right (segment_is t way) (has (t ∷ []) t) (ap (λ b. b || has [] t) (is-itself t))))
    k))
    is ends
