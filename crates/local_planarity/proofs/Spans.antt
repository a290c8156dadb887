-- The box of three positions meets the box of a segment with an end in it.
use Rattle.kit_words.proofs.Common.{◌≡◌, ℤ, ◌≤ℤ◌, Bool, true, false, not, ◌&&◌, int_le, refl, ap, ◌∙◌, sym, arith}
use Rattle.kit_words.proofs.Common.{inl, inr, List, int_min, int_max, false≢true, ints, clamps, and_parts, or_cases}
use Rattle.std.proofs.Math.Bool.{and-false}
use Rattle.grid_geometry.specs.Common.{Position, InRange, position_eq, Segment, IsBox, box_of, boxes_meet, is_end}
use Rattle.grid_geometry.specs.Common.{is_held, is_spanned, is_in_box_of_three}
use Rattle.ring_machine.specs.Common.{has}
use Rattle.ring_machine.proofs.Common.{position_eq-true}
use Rattle.local_planarity.specs.Spans.{least_of, most_of, box_of_three, lies_in}

pub least_most : (a b c : ℤ) → least_of a b c ≤ℤ most_of a b c
least_most a b c = grind (arith, ints, clamps)

-- of a number between the least and the greatest of three, and a stretch that begins or ends there
lo_meets : (a b c z w : ℤ) → is_spanned a b c z ≡ true → (int_le (int_min z w) (most_of a b c) && int_le (least_of a b c) (int_max z w)) ≡ true
lo_meets a b c z w h = grind (arith, ints, clamps)

hi_meets : (a b c z w : ℤ) → is_spanned a b c z ≡ true → (int_le (int_min w z) (most_of a b c) && int_le (least_of a b c) (int_max w z)) ≡ true
hi_meets a b c z w h = grind (arith, ints, clamps)

-- what a triangle holds lies between its least and greatest coordinates
spanned : (a b c v : Position) → is_held v a b c ≡ true → (is_spanned a.x b.x c.x v.x ≡ true) × (is_spanned a.y b.y c.y v.y ≡ true)
spanned a b c v k =
    let box = and_parts (is_in_box_of_three v a b c) _ k in
    and_parts (is_spanned a.x b.x c.x v.x) (is_spanned a.y b.y c.y v.y) box.0

-- a triangle that holds an end of a segment has a box that meets that of the segment
pub held_end_meets : (t : Segment) (w a b c : Position) → is_end w t ≡ true → is_held w a b c ≡ true → boxes_meet (box_of t) (box_of_three a b c) ≡ true
held_end_meets t w a b c e h = elim (or_cases (position_eq w t.lo) (position_eq w t.hi) e) [
  | inl l ↦
      let same = position_eq-true w t.lo l in
      let k = spanned a b c t.lo (ap (λ z. is_held z a b c) (sym same) ∙ h) in
      λ i. lo_meets a.x b.x c.x t.lo.x t.hi.x k.0 i && lo_meets a.y b.y c.y t.lo.y t.hi.y k.1 i
  | inr r ↦
      let same = position_eq-true w t.hi r in
      let k = spanned a b c t.hi (ap (λ z. is_held z a b c) (sym same) ∙ h) in
      λ i. hi_meets a.x b.x c.x t.hi.x t.lo.x k.0 i && hi_meets a.y b.y c.y t.hi.y t.lo.y k.1 i
]

-- what a triangle holds lies in its box
in_span : (a b c z : ℤ) → is_spanned a b c z ≡ true → (int_le (least_of a b c) z && int_le z (most_of a b c)) ≡ true
in_span a b c z h = grind (arith, ints, clamps)

held_lies_in : (w a b c : Position) → is_held w a b c ≡ true → lies_in w (box_of_three a b c) ≡ true
held_lies_in w a b c h =
    let k = spanned a b c w h in
    λ i. in_span a.x b.x c.x w.x k.0 i && in_span a.y b.y c.y w.y k.1 i

-- so it holds none that does not lie there
pub none_held : (these : List Position) (w a b c : Position) → lies_in w (box_of_three a b c) ≡ false
    → (not (has these w) && is_held w a b c) ≡ false
none_held these w a b c off = by (is_held w a b c) refl
  where
    by : (r : Bool) → is_held w a b c ≡ r → (not (has these w) && is_held w a b c) ≡ false
    by false h = ap (λ z. not (has these w) && z) h ∙ and-false (not (has these w))
    by true h = absurd (false≢true (sym off ∙ held_lies_in w a b c h))

-- ---- the box is one of the grid

pub box_in_place : (a b c p q r s : Position) (x0 y0 x1 y1 : ℤ) → InRange p → InRange q → InRange r → InRange s
    → x0 ≡ p.x → y0 ≡ q.y → x1 ≡ r.x → y1 ≡ s.y
    → p.x ≡ least_of a.x b.x c.x → q.y ≡ least_of a.y b.y c.y → r.x ≡ most_of a.x b.x c.x → s.y ≡ most_of a.y b.y c.y
    → IsBox (record { x0 = x0; y0 = y0; x1 = x1; y1 = y1 })
box_in_place a b c p q r s x0 y0 x1 y1 hp hq hr hs ex0 ey0 ex1 ey1 left low right high = record {
  least = record { across = rw ex0 hp.across; upward = rw ey0 hq.upward };
  most = record { across = rw ex1 hr.across; upward = rw ey1 hs.upward };
  across = rw (ex0, ex1, left, right) (least_most a.x b.x c.x);
  upward = rw (ey0, ey1, low, high) (least_most a.y b.y c.y);
}
