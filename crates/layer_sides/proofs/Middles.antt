-- The middle of a segment: which segments count for it, by their place in the order.
use Rattle.kit_words.proofs.Common.{ℤ, pos, ◌≡◌, ◌+ℤ◌, arith, ap, ap₂, ◌∙◌, ints, sym, true, false, IsTrue, by_bool, ⊎_elim}
use Rattle.kit_words.proofs.Common.{◌&&◌, ◌||◌, not, int_lt, int_eq, and_from, and_left, or_from, refl, false≢true}
use Rattle.std.proofs.lemmas.Bool.{and_right}
use Rattle.grid_geometry.specs.Common.{Position, Segment, IsSegment, orientation, position_eq, is_end}
use Rattle.grid_geometry.proofs.Algebra.{expand}
use Rattle.layer_sides.specs.Common.{level_lt, bottom, top, is_under_way, doubled, middle, counts_for}
use Rattle.layer_sides.proofs.InOrder.{is_right, is_left}
use Rattle.layer_sides.proofs.Levels.{by_ends, rises, not_back, counts_where_left, before_differs, after_differs}
use Rattle.layer_sides.proofs.Touching.{is_end_risen}
use Rattle.layer_sides.proofs.Events.{under_way_reaches, not_both_sides}
use Rattle.layer_sides.proofs.Doubling.{twice, InFineOrder, bottom-doubled, top-doubled}

-- ---- where the middle is
lt_left : (x y : ℤ) → int_lt (x +ℤ x) (x +ℤ y) ≡ int_lt x y
lt_left x y = grind (arith, ints)

lt_right : (x y : ℤ) → int_lt (x +ℤ y) (y +ℤ y) ≡ int_lt x y
lt_right x y = grind (arith, ints)

back_left : (x y : ℤ) → int_lt (x +ℤ y) (x +ℤ x) ≡ int_lt y x
back_left x y = grind (arith, ints)

back_right : (x y : ℤ) → int_lt (y +ℤ y) (x +ℤ y) ≡ int_lt y x
back_right x y = grind (arith, ints)

eq_left : (x y : ℤ) → int_eq (x +ℤ x) (x +ℤ y) ≡ int_eq x y
eq_left x y = grind (arith, ints)

eq_right : (x y : ℤ) → int_eq (x +ℤ y) (y +ℤ y) ≡ int_eq x y
eq_right x y = grind (arith, ints)

abbrev half : Position → Position → Position
half a b = record { x = a.x +ℤ b.x; y = a.y +ℤ b.y }

first_half : (a b : Position) → level_lt (doubled a) (half a b) ≡ level_lt a b
first_half a b = λ i. lt_left a.y b.y i || (eq_left a.y b.y i && back_left a.x b.x i)

second_half : (a b : Position) → level_lt (half a b) (doubled b) ≡ level_lt a b
second_half a b = λ i. lt_right a.y b.y i || (eq_right a.y b.y i && back_right a.x b.x i)

half-comm : (a b : Position) → half a b ≡ half b a
half-comm a b = λ i. record { x = swapped a.x b.x i; y = swapped a.y b.y i }
  where
    swapped : (x y : ℤ) → x +ℤ y ≡ y +ℤ x
    swapped x y = omega (arith, ints)

-- the middle is half way from the bottom to the top
middle_half : (s : Segment) → middle s ≡ half (bottom s) (top s)
middle_half s = by_ends s (λ a b. middle s ≡ half a b) (λ e. refl) (λ e. half-comm s.lo s.hi)

orientation-half : (a b : Position) → orientation (doubled a) (doubled b) (half a b) ≡ pos 0
unfolding orientation
orientation-half a b = simp expand (omega (arith, ints))

-- the middle comes after the bottom by level, and before the top
pub bottom_before_middle : (s : Segment) → IsSegment s → level_lt (bottom (twice s)) (middle s) ≡ true
bottom_before_middle s h = ap₂ level_lt (bottom-doubled s) (middle_half s) ∙ first_half (bottom s) (top s) ∙ rises s h

pub middle_before_top : (s : Segment) → IsSegment s → level_lt (middle s) (top (twice s)) ≡ true
middle_before_top s h = ap₂ level_lt (middle_half s) (top-doubled s) ∙ second_half (bottom s) (top s) ∙ rises s h

pub middle_under_way : (s : Segment) → IsSegment s → is_under_way (middle s) (twice s) ≡ true
middle_under_way s h =
    and_from (not (level_lt (middle s) (bottom (twice s)))) (level_lt (middle s) (top (twice s)))
    (ap not (not_back (bottom (twice s)) (middle s) (bottom_before_middle s h))) (middle_before_top s h)

-- the middle is on the line of the segment
pub orientation-middle : (s : Segment) → orientation (bottom (twice s)) (top (twice s)) (middle s) ≡ pos 0
orientation-middle s =
    (λ i. orientation (bottom-doubled s i) (top-doubled s i) (middle_half s i)) ∙ orientation-half (bottom s) (top s)

pub middle_not_right : (s : Segment) → is_right (middle s) (twice s) ≡ false
middle_not_right s = by _ (orientation-middle s)
  where
    by : (z : ℤ) → z ≡ pos 0 → int_lt z (pos 0) ≡ false
    by z h = grind (arith, ints)

pub middle_not_left : (s : Segment) → is_left (middle s) (twice s) ≡ false
middle_not_left s = by _ (orientation-middle s)
  where
    by : (z : ℤ) → z ≡ pos 0 → int_lt (pos 0) z ≡ false
    by z h = grind (arith, ints)

pub middle_no_end : (s : Segment) → IsSegment s → is_end (middle s) (twice s) ≡ false
middle_no_end s h =
    sym (is_end_risen (middle s) (twice s))
    ∙ or_from (position_eq (middle s) (bottom (twice s))) (position_eq (middle s) (top (twice s)))
    (after_differs (middle s) (bottom (twice s)) (bottom_before_middle s h)) (before_differs (middle s) (top (twice s)) (middle_before_top s h))

-- ---- what counts for it
pub counts_for_is : (w : Position) (s : Segment) → counts_for w s ≡ (is_under_way w (twice s) && is_left w (twice s))
counts_for_is w s = counts_where_left w (twice s)

-- a segment that is not under way at w does not count for it
pub counts_elsewhere : (w : Position) (s : Segment) → is_under_way w (twice s) ≡ false → counts_for w s ≡ false
counts_elsewhere w s h = counts_for_is w s ∙ and_left (is_under_way w (twice s)) (is_left w (twice s)) h

-- a segment does not count for its own middle
pub counts_itself : (s : Segment) → counts_for (middle s) s ≡ false
counts_itself s = counts_for_is (middle s) s ∙ and_right (is_under_way (middle s) (twice s)) (is_left (middle s) (twice s)) (middle_not_left s)

-- a segment that is under way at the middle of s and lies behind s counts for it
pub counts_behind : (s u : Segment) → IsSegment s → InFineOrder s u → IsTrue (is_under_way (middle s) (twice u))
    → counts_for (middle s) u ≡ true
counts_behind s u hs o way =
    let m = middle s in
    let left : is_left m (twice u) ≡ true =
    ⊎_elim (λ (e : is_right m (twice s) ≡ true). absurd (false≢true (sym (middle_not_right s) ∙ e))) (λ (e : is_left m (twice u) ≡ true). e)
    (o m (under_way_reaches m (twice s) (middle_under_way s hs)) (under_way_reaches m (twice u) way)
    (and_left (is_end m (twice s)) (is_end m (twice u)) (middle_no_end s hs))) in
    counts_for_is m u ∙ and_from (is_under_way m (twice u)) (is_left m (twice u)) way left

-- and one that lies before it does not
pub counts_before : (t s : Segment) → IsSegment s → InFineOrder t s → IsTrue (is_under_way (middle s) (twice t))
    → counts_for (middle s) t ≡ false
counts_before t s hs o way =
    let m = middle s in
    let right : is_right m (twice t) ≡ true =
    ⊎_elim (λ (e : is_right m (twice t) ≡ true). e) (λ (e : is_left m (twice s) ≡ true). absurd (false≢true (sym (middle_not_left s) ∙ e)))
    (o m (under_way_reaches m (twice t) way) (under_way_reaches m (twice s) (middle_under_way s hs))
    (and_right (is_end m (twice t)) (is_end m (twice s)) (middle_no_end s hs))) in
    let not_left : is_left m (twice t) ≡ false =
    by_bool (is_left m (twice t)) (λ (e : is_left m (twice t) ≡ true). absurd (not_both_sides m (twice t) right e)) (λ (e : is_left m (twice t) ≡ false). e) in
    counts_for_is m t ∙ and_right (is_under_way m (twice t)) (is_left m (twice t)) not_left
