-- The least box that has another one and those of the first so many segments.
use Rattle.kit_words.proofs.Common.{◌≡◌, ◌<◌, ◌+◌, ◌&&◌, ℕ, ℤ, true, sym, ap, ◌∙◌, int_le, List, [], length, get_or}
use Rattle.kit_words.proofs.Common.{take, inl, inr, arith, int_min, int_max, ints, list_any_more, list_any_kept}
use Rattle.kit_words.proofs.Common.{or_cases, or_right, le_itself, min_left, max_left}
use Rattle.grid_geometry.specs.Common.{Position, Segment, Box, box_of}
use Rattle.segment_index.specs.Common.{is_within, box_around, SegmentSet, has, segment_is}
use Rattle.segment_index.proofs.Common.{meet_parts, same_segment, is-itself}
use Rattle.point_queries.specs.Common.{box_at, IsBoxAround, AreBoxesOf, IsLeast}
use Rattle.point_queries.proofs.Coordinates.{min_right, max_right}

below_both : (a b c : ℤ) → int_le c a ≡ true → int_le c b ≡ true → int_le c (int_min a b) ≡ true
below_both a b c h k = grind (arith, ints)

above_both : (a b c : ℤ) → int_le a c ≡ true → int_le b c ≡ true → int_le (int_max a b) c ≡ true
above_both a b c h k = grind (arith, ints)

within_itself : (r : Box) → is_within r r ≡ true
within_itself r = λ i. (le_itself r.x0 i && le_itself r.x1 i) && (le_itself r.y0 i && le_itself r.y1 i)

-- what one of two boxes has, the least box around both has
within_first : (r a b : Box) → is_within r a ≡ true → is_within r (box_around a b) ≡ true
within_first r a b h =
    let p = meet_parts (int_le a.x0 r.x0) (int_le r.x1 a.x1) (int_le a.y0 r.y0) (int_le r.y1 a.y1) h in
    λ i. (min_left a.x0 b.x0 r.x0 p.0 i && max_left a.x1 b.x1 r.x1 p.1 i) && (min_left a.y0 b.y0 r.y0 p.2 i && max_left a.y1 b.y1 r.y1 p.3 i)

within_last : (a b : Box) → is_within b (box_around a b) ≡ true
within_last a b = λ i.
    (min_right a.x0 b.x0 b.x0 (le_itself b.x0) i && max_right a.x1 b.x1 b.x1 (le_itself b.x1) i)
    && (min_right a.y0 b.y0 b.y0 (le_itself b.y0) i && max_right a.y1 b.y1 b.y1 (le_itself b.y1) i)

-- a box that has two has the least one around both
around_within : (a b q : Box) → is_within a q ≡ true → is_within b q ≡ true → is_within (box_around a b) q ≡ true
around_within a b q h k =
    let p = meet_parts (int_le q.x0 a.x0) (int_le a.x1 q.x1) (int_le q.y0 a.y0) (int_le a.y1 q.y1) h in
    let o = meet_parts (int_le q.x0 b.x0) (int_le b.x1 q.x1) (int_le q.y0 b.y0) (int_le b.y1 q.y1) k in
    λ i. (below_both a.x0 b.x0 q.x0 p.0 o.0 i && above_both a.x1 b.x1 q.x1 p.1 o.1 i) && (below_both a.y0 b.y0 q.y0 p.2 o.2 i && above_both a.y1 b.y1 q.y1 p.3 o.3 i)

pub least_none : (b : Box) → IsLeast b [] b
least_none b = record {
  has_first = within_itself b;
  has_each = λ t h. absurd (grind (arith, h));
  least = λ q h k. h;
}

pub least_more : (b : Box) (boxes : List Segment) (i : ℕ) (d : Segment) (r k : Box) → i < length boxes → d ≡ get_or boxes i d
    → k ≡ box_around r (box_of d) → IsLeast b (take i boxes) r → IsLeast b (take (i + 1) boxes) k
least_more b boxes i d r k lt here more before = rw more (record {
  has_first = within_first b r (box_of d) before.has_first;
  has_each = λ t h.
      elim (or_cases (has (take i boxes) t) (segment_is t (get_or boxes i d)) (sym (list_any_more (segment_is t) boxes i d lt) ∙ h)) [
        | inl e ↦ within_first (box_of t) r (box_of d) (before.has_each t e)
        | inr e ↦ ap (λ (s : Segment). is_within (box_of s) (box_around r (box_of d))) (same_segment t (get_or boxes i d) e ∙ sym here) ∙ within_last r (box_of d)
      ];
  least = λ q h each.
      around_within r (box_of d) q (before.least q h (λ t u. each t (list_any_kept (segment_is t) boxes i u))) (each d there);
})
  where
    there : has (take (i + 1) boxes) d ≡ true
    there =
        list_any_more (segment_is d) boxes i d lt
        ∙ or_right (has (take i boxes) d) (segment_is d (get_or boxes i d)) (ap (segment_is d) (sym here) ∙ is-itself d)

-- the boxes that a position lies in
pub around_boxes : (boxes : SegmentSet) (p : Position) (near : List Segment) (r : Box) → AreBoxesOf boxes p near
    → IsLeast (box_at p) near r → IsBoxAround boxes p r
around_boxes boxes p near r of least = record {
  has_it = least.has_first;
  has_each = λ d h k. least.has_each d (of.each d h k);
  least = λ q h each. least.least q h (λ d i. each d (of.among d i) (of.have_it d i));
}
