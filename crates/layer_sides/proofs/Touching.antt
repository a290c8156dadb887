-- Segments that do not conflict, by the ends that come first and last by level: they do not cross, and none ends within the other.
use Rattle.kit_words.proofs.Common.{ℤ, pos, ◌≡◌, ◌-ℤ◌, ◌*ℤ◌, neg_ℤ, ◌≤ℤ◌, ◌<ℤ◌, arith, ap, ap₂, ◌∙◌, ints, sym, true, false}
use Rattle.kit_words.proofs.Common.{◌&&◌, ◌||◌, not, int_lt, int_le, int_eq, by_lt_z, or_comm, or_parts, and_from, false≢true, refl}
use Rattle.grid_geometry.specs.Common.{Position, Segment, position_eq, is_end}
use Rattle.grid_geometry.specs.Orientation.{orientation, is_on, is_between, are_split, are_opposite}
use Rattle.grid_geometry.specs.Conflict.{cross, is_within, conflict}
use Rattle.grid_geometry.proofs.Algebra.{expand, up_up, down_up, above_above, below_above, weak}
use Rattle.grid_geometry.proofs.Turns.{orientation-reverse}
use Rattle.grid_geometry.proofs.Conflicts.{conflict-comm}
use Rattle.layer_sides.specs.Common.{level_lt, bottom, top}
use Rattle.layer_sides.proofs.Levels.{by_ends, before_differs, after_differs}

-- ---- a position on the line of an edge and between its ends by level is on the edge
in_span : (X Y x y : ℤ) → X *ℤ y ≡ x *ℤ Y → pos 0 ≤ℤ y → y ≤ℤ Y → pos 0 <ℤ Y → is_between (pos 0) X x ≡ true
in_span X Y x y e hy hyY hY =
    by_lt_z X (pos 0)
    (λ (h : X <ℤ pos 0). falls X x (low h) (high h))
    (λ (h : pos 0 ≤ℤ X). climbs X x (above h) (below h))
  where
    less : (m k l : ℤ) → m *ℤ (k -ℤ l) ≡ m *ℤ k -ℤ m *ℤ l
    less m k l = simp expand (omega (arith, ints))

    less_left : (k l m : ℤ) → (k -ℤ l) *ℤ m ≡ k *ℤ m -ℤ l *ℤ m
    less_left k l m = simp expand (omega (arith, ints))

    climbs : (X x : ℤ) → pos 0 ≤ℤ x → x ≤ℤ X → is_between (pos 0) X x ≡ true
    climbs X x h k = grind (arith, ints)

    falls : (X x : ℤ) → X ≤ℤ x → x ≤ℤ pos 0 → is_between (pos 0) X x ≡ true
    falls X x h k = grind (arith, ints)

    above : pos 0 ≤ℤ X → pos 0 ≤ℤ x
    above h = by_lt_z x (pos 0) (λ (k : x <ℤ pos 0). absurd (omega (arith, ints, below_above x Y k hY, up_up X y h hy))) (λ (k : pos 0 ≤ℤ x). k)

    below : pos 0 ≤ℤ X → x ≤ℤ X
    below h =
        by_lt_z X x
        (λ (k : X <ℤ x). absurd (omega (arith, ints, below_above (X -ℤ x) Y (omega (arith, ints)) hY, up_up X (Y -ℤ y) h (omega (arith, ints)), less X Y y, less_left X x Y)))
        (λ (k : x ≤ℤ X). k)

    high : X <ℤ pos 0 → x ≤ℤ pos 0
    high h = by_lt_z (pos 0) x (λ (k : pos 0 <ℤ x). absurd (omega (arith, ints, above_above x Y k hY, down_up X y (weak _ _ h) hy))) (λ (k : x ≤ℤ pos 0). k)

    low : X <ℤ pos 0 → X ≤ℤ x
    low h =
        by_lt_z x X
        (λ (k : x <ℤ X). absurd (omega (arith, ints, above_above (X -ℤ x) Y (omega (arith, ints)) hY, down_up X (Y -ℤ y) (weak _ _ h) (omega (arith, ints)), less X Y y, less_left X x Y)))
        (λ (k : X ≤ℤ x). k)

moved_between : (a b z : ℤ) → is_between (pos 0) (b -ℤ a) (z -ℤ a) ≡ true → is_between a b z ≡ true
moved_between a b z h = grind (arith, ints)

-- what the order by level says of heights, and of places across at one height
up_to : (x y x' y' : ℤ) → (int_lt y y' || (int_eq y y' && int_lt x' x)) ≡ true → y ≤ℤ y'
up_to x y x' y' h = grind (arith, ints)

across : (x y x' y' : ℤ) → (int_lt y y' || (int_eq y y' && int_lt x' x)) ≡ true → y' ≤ℤ y → x' <ℤ x
across x y x' y' h e = grind (arith, ints)

upward : (a b z : ℤ) → a ≤ℤ z → z ≤ℤ b → is_between a b z ≡ true
upward a b z h k = grind (arith, ints)

back_across : (a b z : ℤ) → z <ℤ a → b <ℤ z → is_between a b z ≡ true
back_across a b z h k = grind (arith, ints)

pub is_on_between : (p a b : Position) → level_lt a p ≡ true → level_lt p b ≡ true → orientation a b p ≡ pos 0 → is_on p a b ≡ true
unfolding is_on orientation
is_on_between p a b h k e =
    let low : a.y ≤ℤ p.y = up_to a.x a.y p.x p.y h in
    let high : p.y ≤ℤ b.y = up_to p.x p.y b.x b.y k in
    let turns : (b.x -ℤ a.x) *ℤ (p.y -ℤ a.y) -ℤ (p.x -ℤ a.x) *ℤ (b.y -ℤ a.y) ≡ pos 0 = e in
    let box : is_between a.x b.x p.x ≡ true =
    by_lt_z a.y b.y
    (λ (l : a.y <ℤ b.y). moved_between a.x b.x p.x (in_span (b.x -ℤ a.x) (b.y -ℤ a.y) (p.x -ℤ a.x) (p.y -ℤ a.y) (omega (arith, ints)) (omega (arith, ints)) (omega (arith, ints)) (omega (arith, ints))))
    (λ (l : b.y ≤ℤ a.y). back_across a.x b.x p.x (across a.x a.y p.x p.y h (omega (arith, ints))) (across p.x p.y b.x b.y k (omega (arith, ints)))) in
    and_from _ _ (zero_is _ e) (and_from _ _ box (upward a.y b.y p.y low high))
  where
    zero_is : (z : ℤ) → z ≡ pos 0 → int_eq z (pos 0) ≡ true
    zero_is z h = grind (arith, ints)

-- ---- a segment with its ends in the other order
abbrev flipped : Segment → Segment
flipped s = record { lo = s.hi; hi = s.lo }

opposite_back : (m n : ℤ) → are_opposite n m ≡ are_opposite m n
opposite_back m n = grind (arith, ints)

opposite_negs : (m n : ℤ) → are_opposite (neg_ℤ m) (neg_ℤ n) ≡ are_opposite m n
opposite_negs m n = grind (arith, ints)

zero_neg : (m : ℤ) → int_eq (neg_ℤ m) (pos 0) ≡ int_eq m (pos 0)
zero_neg m = grind (arith, ints)

between_back : (a b z : ℤ) → is_between b a z ≡ is_between a b z
between_back a b z = or_comm (int_le b z && int_le z a) (int_le a z && int_le z b)

split_flipped : (p q a b : Position) → are_split p q b a ≡ are_split p q a b
unfolding are_split
split_flipped p q a b = ap₂ are_opposite (orientation-reverse a b p) (orientation-reverse a b q) ∙ opposite_negs (orientation a b p) (orientation a b q)

split_back : (p q a b : Position) → are_split q p a b ≡ are_split p q a b
unfolding are_split
split_back p q a b = opposite_back (orientation a b p) (orientation a b q)

on_flipped : (p a b : Position) → is_on p b a ≡ is_on p a b
unfolding is_on
on_flipped p a b =
    ap₂ (λ x y. x && y) (ap (λ z. int_eq z (pos 0)) (orientation-reverse a b p) ∙ zero_neg (orientation a b p))
    (ap₂ (λ x y. x && y) (between_back a.x b.x p.x) (between_back a.y b.y p.y))

within_flipped : (p : Position) (s : Segment) → is_within p (flipped s) ≡ is_within p s
unfolding is_within
within_flipped p s = ap₂ (λ x y. x && not y) (on_flipped p s.lo s.hi) (or_comm (position_eq p s.hi) (position_eq p s.lo))

conflict_flipped : (s t : Segment) → conflict (flipped s) t ≡ conflict s t
unfolding conflict cross
conflict_flipped s t =
    ap₂ (λ x y. x || y) (ap₂ (λ x y. x && y) (split_flipped t.lo t.hi s.lo s.hi) (split_back s.lo s.hi t.lo t.hi))
    (ap₂ (λ x y. x || y) (or_comm (is_within s.hi t) (is_within s.lo t)) (ap₂ (λ x y. x || y) (within_flipped t.lo s) (within_flipped t.hi s)))

-- a segment from its bottom to its top
abbrev pub risen : Segment → Segment
risen s = record { lo = bottom s; hi = top s }

conflict_risen : (s t : Segment) → conflict (risen s) t ≡ conflict s t
conflict_risen s t = by_ends s (λ a b. conflict (record { lo = a; hi = b }) t ≡ conflict s t) (λ e. refl) (λ e. conflict_flipped s t)

pub conflict_both_risen : (s t : Segment) → conflict (risen s) (risen t) ≡ conflict s t
conflict_both_risen s t = conflict_risen s (risen t) ∙ conflict-comm s (risen t) ∙ conflict_risen t s ∙ conflict-comm t s

pub is_end_risen : (w : Position) (s : Segment) → is_end w (risen s) ≡ is_end w s
is_end_risen w s =
    by_ends s (λ a b. is_end w (record { lo = a; hi = b }) ≡ is_end w s) (λ e. refl) (λ e. or_comm (position_eq w s.hi) (position_eq w s.lo))

-- ---- what does not hold of segments that do not conflict
pub not_cross : (s t : Segment) → conflict s t ≡ false
    → orientation s.lo s.hi t.lo <ℤ pos 0 → pos 0 <ℤ orientation s.lo s.hi t.hi
    → pos 0 <ℤ orientation t.lo t.hi s.lo → orientation t.lo t.hi s.hi <ℤ pos 0 → ⊥
unfolding conflict cross are_split
not_cross s t e hp hq hr hs =
    false≢true (sym (or_parts _ _ e).0 ∙ and_from _ _ (falls _ _ hp hq) (rises _ _ hr hs))
  where
    falls : (m n : ℤ) → m <ℤ pos 0 → pos 0 <ℤ n → are_opposite m n ≡ true
    falls m n h k = grind (arith, ints)

    rises : (m n : ℤ) → pos 0 <ℤ m → n <ℤ pos 0 → are_opposite m n ≡ true
    rises m n h k = grind (arith, ints)

within_between : (p : Position) (s : Segment) → level_lt s.lo p ≡ true → level_lt p s.hi ≡ true → orientation s.lo s.hi p ≡ pos 0
    → is_within p s ≡ true
unfolding is_within
within_between p s h k e =
    and_from _ _ (is_on_between p s.lo s.hi h k e) (λ i. not (after_differs p s.lo h i || before_differs p s.hi k i))

ends_apart : (s t : Segment) → conflict s t ≡ false → (is_within s.hi t ≡ false) × (is_within t.hi s ≡ false)
unfolding conflict
ends_apart s t e =
    let s_ends = is_within s.lo t || is_within s.hi t in
    let t_ends = is_within t.lo s || is_within t.hi s in
    let p = or_parts s_ends t_ends (or_parts (cross s t) (s_ends || t_ends) e).1 in
    ((or_parts (is_within s.lo t) (is_within s.hi t) p.0).1, (or_parts (is_within t.lo s) (is_within t.hi s) p.1).1)

-- the last end of s is not on t, between its ends
pub first_not_within : (s t : Segment) → conflict s t ≡ false → level_lt t.lo s.hi ≡ true → level_lt s.hi t.hi ≡ true
    → orientation t.lo t.hi s.hi ≡ pos 0 → ⊥
first_not_within s t e h k z = false≢true (sym (ends_apart s t e).0 ∙ within_between s.hi t h k z)

-- the last end of t is not on s, between its ends
pub second_not_within : (s t : Segment) → conflict s t ≡ false → level_lt s.lo t.hi ≡ true → level_lt t.hi s.hi ≡ true
    → orientation s.lo s.hi t.hi ≡ pos 0 → ⊥
second_not_within s t e h k z = false≢true (sym (ends_apart s t e).1 ∙ within_between t.hi s h k z)
