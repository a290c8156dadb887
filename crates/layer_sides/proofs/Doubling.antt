-- The grid that is twice as fine: sides, levels, conflicts and the order of segments are the same there.
use Rattle.kit_words.proofs.Common.{ℤ, pos, ◌≡◌, ◌+ℤ◌, arith, ap, ap₂, ◌∙◌, ints, sym, true, false, IsTrue, ⊎_elim}
use Rattle.kit_words.proofs.Common.{Bool, ◌&&◌, ◌||◌, not, int_lt, int_le, int_eq, int_cmp, ordering_then, refl, if◌then◌else◌, inl, inr}
use Rattle.grid_geometry.specs.Common.{Position, Segment, IsSegment, position_eq, is_end}
use Rattle.grid_geometry.specs.Orientation.{orientation, is_on, is_between, are_split, are_opposite}
use Rattle.grid_geometry.specs.Conflict.{cross, is_within, conflict}
use Rattle.grid_geometry.proofs.Algebra.{expand}
use Rattle.layer_sides.specs.Common.{level_lt, bottom, top, is_under_way, doubled}
use Rattle.layer_sides.proofs.InOrder.{InOrder, reaches, is_right, is_left}
use Rattle.layer_sides.proofs.Orders.{born_right, born_left, born_together}
use Rattle.layer_sides.proofs.Events.{under_way_kept}

-- the segment on the finer grid
abbrev pub twice : Segment → Segment
twice s = record { lo = doubled s.lo; hi = doubled s.hi }

-- t lies before u on the finer grid, where the middles of segments are
abbrev pub InFineOrder : Segment → Segment → Type 0
InFineOrder t u = InOrder (twice t) (twice u)

-- ---- numbers
lt_doubled : (x y : ℤ) → int_lt (x +ℤ x) (y +ℤ y) ≡ int_lt x y
lt_doubled x y = grind (arith, ints)

le_doubled : (x y : ℤ) → int_le (x +ℤ x) (y +ℤ y) ≡ int_le x y
le_doubled x y = grind (arith, ints)

cmp_doubled : (x y : ℤ) → int_cmp (x +ℤ x) (y +ℤ y) ≡ int_cmp x y
cmp_doubled x y = grind (arith, ints)

eq_doubled : (x y : ℤ) → int_eq (x +ℤ x) (y +ℤ y) ≡ int_eq x y
eq_doubled x y = grind (arith, ints)

below_doubled : (z : ℤ) → int_lt ((z +ℤ z) +ℤ (z +ℤ z)) (pos 0) ≡ int_lt z (pos 0)
below_doubled z = grind (arith, ints)

above_doubled : (z : ℤ) → int_lt (pos 0) ((z +ℤ z) +ℤ (z +ℤ z)) ≡ int_lt (pos 0) z
above_doubled z = grind (arith, ints)

zero_doubled : (z : ℤ) → int_eq ((z +ℤ z) +ℤ (z +ℤ z)) (pos 0) ≡ int_eq z (pos 0)
zero_doubled z = grind (arith, ints)

opposite_doubled : (m n : ℤ) → are_opposite ((m +ℤ m) +ℤ (m +ℤ m)) ((n +ℤ n) +ℤ (n +ℤ n)) ≡ are_opposite m n
opposite_doubled m n = λ i. (below_doubled m i && above_doubled n i) || (above_doubled m i && below_doubled n i)

-- ---- positions
pub level_doubled : (p q : Position) → level_lt (doubled p) (doubled q) ≡ level_lt p q
level_doubled p q = λ i. lt_doubled p.y q.y i || (eq_doubled p.y q.y i && lt_doubled q.x p.x i)

position_eq-doubled : (p q : Position) → position_eq (doubled p) (doubled q) ≡ position_eq p q
position_eq-doubled p q = λ i. eq_doubled p.x q.x i && eq_doubled p.y q.y i

pub orientation-doubled : (a b c : Position)
    → orientation (doubled a) (doubled b) (doubled c)
    ≡ (orientation a b c +ℤ orientation a b c) +ℤ (orientation a b c +ℤ orientation a b c)
unfolding orientation
orientation-doubled a b c = simp expand (omega (arith, ints))

-- ---- segments
pub IsSegment-doubled : (s : Segment) → IsSegment s → IsSegment (twice s)
IsSegment-doubled s h = (λ i. ordering_then (cmp_doubled s.lo.x s.hi.x i) (cmp_doubled s.lo.y s.hi.y i)) ∙ h

pick : (b : Bool) (p q : Position) → (if b then doubled p else doubled q) ≡ doubled (if b then p else q)
pick true p q = refl
pick false p q = refl

pub bottom-doubled : (s : Segment) → bottom (twice s) ≡ doubled (bottom s)
bottom-doubled s = ap (λ b. if b then doubled s.lo else doubled s.hi) (level_doubled s.lo s.hi) ∙ pick (level_lt s.lo s.hi) s.lo s.hi

pub top-doubled : (s : Segment) → top (twice s) ≡ doubled (top s)
top-doubled s = ap (λ b. if b then doubled s.hi else doubled s.lo) (level_doubled s.lo s.hi) ∙ pick (level_lt s.lo s.hi) s.hi s.lo

side_doubled : (w : Position) (s : Segment)
    → orientation (bottom (twice s)) (top (twice s)) (doubled w) ≡ orientation (doubled (bottom s)) (doubled (top s)) (doubled w)
side_doubled w s = ap₂ (λ a b. orientation a b (doubled w)) (bottom-doubled s) (top-doubled s)

pub is_right-doubled : (w : Position) (s : Segment) → is_right (doubled w) (twice s) ≡ is_right w s
is_right-doubled w s =
    ap (λ z. int_lt z (pos 0)) (side_doubled w s ∙ orientation-doubled (bottom s) (top s) w) ∙ below_doubled (orientation (bottom s) (top s) w)

pub is_left-doubled : (w : Position) (s : Segment) → is_left (doubled w) (twice s) ≡ is_left w s
is_left-doubled w s =
    ap (λ z. int_lt (pos 0) z) (side_doubled w s ∙ orientation-doubled (bottom s) (top s) w) ∙ above_doubled (orientation (bottom s) (top s) w)

from_bottom : (w : Position) (s : Segment) → level_lt (doubled w) (bottom (twice s)) ≡ level_lt w (bottom s)
from_bottom w s = ap (level_lt (doubled w)) (bottom-doubled s) ∙ level_doubled w (bottom s)

to_top : (w : Position) (s : Segment) → level_lt (doubled w) (top (twice s)) ≡ level_lt w (top s)
to_top w s = ap (level_lt (doubled w)) (top-doubled s) ∙ level_doubled w (top s)

from_top : (w : Position) (s : Segment) → level_lt (top (twice s)) (doubled w) ≡ level_lt (top s) w
from_top w s = ap (λ p. level_lt p (doubled w)) (top-doubled s) ∙ level_doubled (top s) w

pub is_under_way-doubled : (w : Position) (s : Segment) → is_under_way (doubled w) (twice s) ≡ is_under_way w s
is_under_way-doubled w s = ap₂ (λ x y. not x && y) (from_bottom w s) (to_top w s)

pub reaches-doubled : (w : Position) (s : Segment) → reaches (doubled w) (twice s) ≡ reaches w s
reaches-doubled w s = ap₂ (λ x y. not x && not y) (from_bottom w s) (from_top w s)

is_end-doubled : (w : Position) (s : Segment) → is_end (doubled w) (twice s) ≡ is_end w s
is_end-doubled w s = ap₂ (λ x y. x || y) (position_eq-doubled w s.lo) (position_eq-doubled w s.hi)

-- ---- conflicts
split_doubled : (p q a b : Position) → are_split (doubled p) (doubled q) (doubled a) (doubled b) ≡ are_split p q a b
unfolding are_split
split_doubled p q a b =
    ap₂ are_opposite (orientation-doubled a b p) (orientation-doubled a b q) ∙ opposite_doubled (orientation a b p) (orientation a b q)

on_doubled : (p a b : Position) → is_on (doubled p) (doubled a) (doubled b) ≡ is_on p a b
unfolding is_on
on_doubled p a b =
    ap₂ (λ x y. x && y) (ap (λ z. int_eq z (pos 0)) (orientation-doubled a b p) ∙ zero_doubled (orientation a b p))
    (ap₂ (λ x y. x && y) (span_doubled a.x b.x p.x) (span_doubled a.y b.y p.y))
  where
    span_doubled : (x y z : ℤ) → is_between (x +ℤ x) (y +ℤ y) (z +ℤ z) ≡ is_between x y z
    span_doubled x y z = λ i. (le_doubled x z i && le_doubled z y i) || (le_doubled y z i && le_doubled z x i)

within_doubled : (p : Position) (s : Segment) → is_within (doubled p) (twice s) ≡ is_within p s
unfolding is_within
within_doubled p s = ap₂ (λ x y. x && not y) (on_doubled p s.lo s.hi) (is_end-doubled p s)

pub conflict-doubled : (s t : Segment) → conflict (twice s) (twice t) ≡ conflict s t
unfolding conflict cross
conflict-doubled s t =
    ap₂ (λ x y. x || y) (ap₂ (λ x y. x && y) (split_doubled t.lo t.hi s.lo s.hi) (split_doubled s.lo s.hi t.lo t.hi))
    (ap₂ (λ x y. x || y) (ap₂ (λ x y. x || y) (within_doubled s.lo t) (within_doubled s.hi t)) (ap₂ (λ x y. x || y) (within_doubled t.lo s) (within_doubled t.hi s)))

-- ---- the order
-- the order on the finer grid holds on the given one
pub order_given : (t u : Segment) → InFineOrder t u → InOrder t u
order_given t u o w p q e =
    ⊎_elim (λ h. inl (sym (is_right-doubled w t) ∙ h)) (λ h. inr (sym (is_left-doubled w u) ∙ h))
    (o (doubled w) (reaches-doubled w t ∙ p) (reaches-doubled w u ∙ q) (ap₂ (λ x y. x && y) (is_end-doubled w t) (is_end-doubled w u) ∙ e))

-- u begins at v, strictly right of t, which is under way there
pub born_right_doubled : (t u : Segment) (v : Position) → IsSegment t → IsSegment u → conflict t u ≡ false
    → IsTrue (is_under_way v t) → bottom u ≡ v → IsTrue (is_right v t) → InFineOrder t u
born_right_doubled t u v ht hu c way e right =
    born_right (twice t) (twice u) (doubled v) (IsSegment-doubled t ht) (IsSegment-doubled u hu) (conflict-doubled t u ∙ c)
    (is_under_way-doubled v t ∙ way) (bottom-doubled u ∙ ap doubled e) (is_right-doubled v t ∙ right)

-- t begins at v, strictly left of u, which is under way there
pub born_left_doubled : (t u : Segment) (v : Position) → IsSegment t → IsSegment u → conflict t u ≡ false
    → IsTrue (is_under_way v u) → bottom t ≡ v → IsTrue (is_left v u) → InFineOrder t u
born_left_doubled t u v ht hu c way e left =
    born_left (twice t) (twice u) (doubled v) (IsSegment-doubled t ht) (IsSegment-doubled u hu) (conflict-doubled t u ∙ c)
    (is_under_way-doubled v u ∙ way) (bottom-doubled t ∙ ap doubled e) (is_left-doubled v u ∙ left)

-- both begin at one position, and u ends strictly right of t
pub born_together_doubled : (t u : Segment) → IsSegment t → IsSegment u → bottom t ≡ bottom u → IsTrue (is_right (top u) t) → InFineOrder t u
born_together_doubled t u ht hu e right =
    born_together (twice t) (twice u) (IsSegment-doubled t ht) (IsSegment-doubled u hu)
    (bottom-doubled t ∙ ap doubled e ∙ sym (bottom-doubled u)) (ap (λ p. is_right p (twice t)) (top-doubled u) ∙ is_right-doubled (top u) t ∙ right)

-- ---- between two vertices, on the finer grid
pub under_way_between : (v v' w : Position) (s : Segment) → level_lt w (doubled v) ≡ false → level_lt w (doubled v') ≡ true
    → (level_lt v (bottom s) ≡ true → level_lt (bottom s) v' ≡ false)
    → (level_lt v (top s) ≡ true → level_lt (top s) v' ≡ false) → is_under_way w (twice s) ≡ is_under_way v s
under_way_between v v' w s h k low high =
    under_way_kept (doubled v) (doubled v') w (twice s) h k
    (λ e. ap (λ p. level_lt p (doubled v')) (bottom-doubled s) ∙ level_doubled (bottom s) v' ∙ low (sym (from_bottom v s) ∙ e))
    (λ e. from_top v' s ∙ high (sym (to_top v s) ∙ e)) ∙ is_under_way-doubled v s
