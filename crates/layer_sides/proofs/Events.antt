-- What the order of two segments says of a position that both reach, and where a segment is under way between two vertices.
use Rattle.kit_words.proofs.Common.{ℤ, pos, ◌≡◌, arith, ap, ap₂, ◌∙◌, ints, sym, true, false, IsTrue, by_bool}
use Rattle.kit_words.proofs.Common.{◌&&◌, not, int_lt, int_eq, and_from, and_parts, and_left, or_cases, ⊎_elim}
use Rattle.std.proofs.lemmas.Bool.{and_right}
use Rattle.grid_geometry.specs.Common.{Position, Segment, orientation, position_eq, is_end}
use Rattle.grid_geometry.proofs.Algebra.{expand}
use Rattle.grid_geometry.proofs.Conflicts.{position-path}
use Rattle.grid_geometry.proofs.Turns.{orientation-start}
use Rattle.layer_sides.specs.Common.{level_lt, bottom, top, is_under_way}
use Rattle.layer_sides.proofs.InOrder.{InOrder, reaches, is_right, is_left}
use Rattle.layer_sides.proofs.Levels.{not_back, before_up_to, up_to_up_to}
use Rattle.layer_sides.proofs.Touching.{is_end_risen}

-- ---- sides of ends
pub position_eq-exact : (p q : Position) → position_eq p q ≡ true → p ≡ q
position_eq-exact p q h =
    let e = and_parts (int_eq p.x q.x) (int_eq p.y q.y) h in
    position-path p q (same p.x q.x e.0) (same p.y q.y e.1)
  where
    same : (x y : ℤ) → int_eq x y ≡ true → x ≡ y
    same x y h = grind (arith, ints)

pub orientation-end : (a b : Position) → orientation a b b ≡ pos 0
unfolding orientation
orientation-end a b = simp expand (omega (arith, ints))

-- the ends of a segment lie on its line
on_line : (w : Position) (s : Segment) → is_end w s ≡ true → orientation (bottom s) (top s) w ≡ pos 0
on_line w s h =
    ⊎_elim
    (λ (e : position_eq w (bottom s) ≡ true). ap (orientation (bottom s) (top s)) (position_eq-exact w (bottom s) e) ∙ orientation-start (bottom s) (top s))
    (λ (e : position_eq w (top s) ≡ true). ap (orientation (bottom s) (top s)) (position_eq-exact w (top s) e) ∙ orientation-end (bottom s) (top s))
    (or_cases (position_eq w (bottom s)) (position_eq w (top s)) (is_end_risen w s ∙ h))

zero_not_below : (z : ℤ) → z ≡ pos 0 → int_lt z (pos 0) ≡ true → ⊥
zero_not_below z e h = grind (arith, ints)

zero_not_above : (z : ℤ) → z ≡ pos 0 → int_lt (pos 0) z ≡ true → ⊥
zero_not_above z e h = grind (arith, ints)

pub not_both_sides : (w : Position) (s : Segment) → is_right w s ≡ true → is_left w s ≡ true → ⊥
not_both_sides w s h k = by (orientation (bottom s) (top s) w) h k
  where
    by : (z : ℤ) → int_lt z (pos 0) ≡ true → int_lt (pos 0) z ≡ true → ⊥
    by z h k = grind (arith, ints)

right_not_end : (w : Position) (s : Segment) → is_right w s ≡ true → is_end w s ≡ false
right_not_end w s h = by_bool (is_end w s) (λ e. absurd (zero_not_below _ (on_line w s e) h)) (λ e. e)

left_not_end : (w : Position) (s : Segment) → is_left w s ≡ true → is_end w s ≡ false
left_not_end w s h = by_bool (is_end w s) (λ e. absurd (zero_not_above _ (on_line w s e) h)) (λ e. e)

-- ---- at a position that both reach
-- what is right of u is right of t, which lies before u
pub right_of_both : (t u : Segment) (w : Position) → InOrder t u → IsTrue (reaches w t) → IsTrue (reaches w u)
    → IsTrue (is_right w u) → IsTrue (is_right w t)
right_of_both t u w o p q h =
    ⊎_elim (λ (e : is_right w t ≡ true). e) (λ (e : is_left w u ≡ true). absurd (not_both_sides w u h e))
    (o w p q (and_right (is_end w t) (is_end w u) (right_not_end w u h)))

-- what is left of t is left of u
pub left_of_both : (t u : Segment) (w : Position) → InOrder t u → IsTrue (reaches w t) → IsTrue (reaches w u)
    → IsTrue (is_left w t) → IsTrue (is_left w u)
left_of_both t u w o p q h =
    ⊎_elim (λ (e : is_right w t ≡ true). absurd (not_both_sides w t e h)) (λ (e : is_left w u ≡ true). e)
    (o w p q (and_left (is_end w t) (is_end w u) (left_not_end w t h)))

pub under_way_reaches : (w : Position) (s : Segment) → IsTrue (is_under_way w s) → IsTrue (reaches w s)
under_way_reaches w s h =
    let p = and_parts (not (level_lt w (bottom s))) (level_lt w (top s)) h in
    and_from (not (level_lt w (bottom s))) (not (level_lt (top s) w)) p.0 (ap not (not_back w (top s) p.1))

-- ---- between two vertices
-- q is not after v, or at the level of v' or after it: so it comes after w, between these, where it comes after v
pub level_kept : (v v' w q : Position) → level_lt w v ≡ false → level_lt w v' ≡ true
    → (level_lt v q ≡ true → level_lt q v' ≡ false) → level_lt w q ≡ level_lt v q
level_kept v v' w q h k next =
    by_bool (level_lt v q)
    (λ (e : level_lt v q ≡ true). before_up_to w v' q k (next e) ∙ sym e)
    (λ (e : level_lt v q ≡ false). up_to_up_to q v w e h ∙ sym e)

-- a segment that neither begins nor ends between two levels is under way at all between them, or at none
pub under_way_kept : (v v' w : Position) (s : Segment) → level_lt w v ≡ false → level_lt w v' ≡ true
    → (level_lt v (bottom s) ≡ true → level_lt (bottom s) v' ≡ false)
    → (level_lt v (top s) ≡ true → level_lt (top s) v' ≡ false) → is_under_way w s ≡ is_under_way v s
under_way_kept v v' w s h k low high =
    ap₂ (λ x y. not x && y) (level_kept v v' w (bottom s) h k low) (level_kept v v' w (top s) h k high)
