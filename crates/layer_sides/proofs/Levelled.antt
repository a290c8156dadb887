-- A segment at a vertex: it waits for it, ends there, begins there, or goes on.
use Rattle.kit_words.proofs.Common.{◌≡◌, Bool, true, false, not, ◌&&◌, ◌||◌, refl, sym, ap, ap₂, ◌∙◌, IsTrue, pos}
use Rattle.kit_words.proofs.Common.{int_lt, false≢true, by_bool, ints, arith, ℤ}
use Rattle.grid_geometry.specs.Common.{Position, Segment, orientation, position_eq}
use Rattle.layer_sides.specs.Common.{bottom, top, level_lt, is_under_way}
use Rattle.layer_sides.specs.Under.{awaits}
use Rattle.layer_sides.proofs.InOrder.{is_left, is_right, reaches}
use Rattle.layer_sides.proofs.Levels.{before_differs, after_differs, same_level, not_back, up_to_before}
use Rattle.layer_sides.proofs.Events.{orientation-end, position_eq-exact}

-- ---- levels

eq_level : (p q : Position) → position_eq p q ≡ (not (level_lt p q) && not (level_lt q p))
eq_level p q =
    by_bool (level_lt p q)
    (λ e. before_differs p q e ∙ sym (ap (λ b. not b && not (level_lt q p)) e))
    (λ e. by_bool (level_lt q p)
    (λ f. after_differs p q f ∙ sym (ap₂ (λ b c. not b && not c) e f))
    (λ f. same_level p q e f ∙ sym (ap₂ (λ b c. not b && not c) e f)))

-- with the tests v < b, v < t, b < v and t < v
going : (vb vt bv tv : Bool) → (vb ≡ true → bv ≡ false) → (vt ≡ true → tv ≡ false) → (bv ≡ false → vt ≡ true)
    → (not vb && vt) ≡ (((bv && not tv) && not (not tv && not vt)) || (not bv && not vb))
going true vt true tv h j k = absurd (false≢true (sym (h refl)))
going true true false true h j k = absurd (false≢true (sym (j refl)))
going true true false false h j k = refl
going true false false tv h j k = absurd (false≢true (k refl))
going false true bv true h j k = absurd (false≢true (sym (j refl)))
going false true true false h j k = refl
going false true false false h j k = refl
going false false true true h j k = refl
going false false true false h j k = refl
going false false false tv h j k = absurd (false≢true (k refl))

-- what is under way at v awaits it and does not end there, or begins there
pub way_after : (v : Position) (s : Segment) → level_lt (bottom s) (top s) ≡ true
    → is_under_way v s ≡ ((awaits v s && not (position_eq (top s) v)) || position_eq (bottom s) v)
way_after v s h =
    going (level_lt v (bottom s)) (level_lt v (top s)) (level_lt (bottom s) v) (level_lt (top s) v)
    (not_back v (bottom s)) (not_back v (top s)) (λ e. up_to_before v (bottom s) (top s) e h)
    ∙ ap₂ (λ a b. (awaits v s && not a) || b) (sym (eq_level (top s) v)) (sym (eq_level (bottom s) v))

pub begins_apart : (v : Position) (s : Segment) → position_eq (bottom s) v ≡ true → awaits v s ≡ false
begins_apart v s h =
    by_bool (level_lt (bottom s) v)
    (λ e. absurd (false≢true (sym (before_differs (bottom s) v e) ∙ h)))
    (λ e. ap (λ b. b && not (level_lt (top s) v)) e)

-- what awaits v and does not end there is under way there
pub way_on : (v : Position) (s : Segment) → level_lt (bottom s) (top s) ≡ true → awaits v s ≡ true → position_eq (top s) v ≡ false
    → is_under_way v s ≡ true
way_on v s h a e = way_after v s h ∙ ap₂ (λ b c. (b && not c) || position_eq (bottom s) v) a e

both_true : (a b : Bool) → (a && b) ≡ true → (a ≡ true) × (b ≡ true)
both_true true true h = (refl, refl)
both_true true false h = absurd (false≢true h)
both_true false b h = absurd (false≢true h)

pub awaits_reaches : (v : Position) (s : Segment) → awaits v s ≡ true → IsTrue (reaches v s)
awaits_reaches v s h =
    let k = both_true (level_lt (bottom s) v) (not (level_lt (top s) v)) h in
    ap₂ (λ a b. not a && b) (not_back (bottom s) v k.0) k.1

-- between two vertices nothing begins and nothing ends: what is under way at the one awaits the other
opposite : (u v q : Position) → level_lt u v ≡ true → (level_lt u q ≡ true → level_lt q v ≡ false) → level_lt q v ≡ not (level_lt u q)
opposite u v q h k =
    by_bool (level_lt u q) (λ e. k e ∙ sym (ap not e)) (λ e. up_to_before q u v e h ∙ sym (ap not e))

pub awaited_next : (u v : Position) (s : Segment) → level_lt u v ≡ true
    → (level_lt u (bottom s) ≡ true → level_lt (bottom s) v ≡ false)
    → (level_lt u (top s) ≡ true → level_lt (top s) v ≡ false) → is_under_way u s ≡ awaits v s
awaited_next u v s h k l =
    sym (ap₂ (λ a b. a && not b) (opposite u v (bottom s) h k) (opposite u v (top s) h l) ∙ twice_not (level_lt u (bottom s)) (level_lt u (top s)))
  where
    twice_not : (a b : Bool) → (not a && not (not b)) ≡ (not a && b)
    twice_not a true = refl
    twice_not a false = refl

-- before all vertices nothing is under way
pub none_awaits : (v : Position) (s : Segment) → level_lt (bottom s) v ≡ false → awaits v s ≡ false
none_awaits v s h = ap (λ b. b && not (level_lt (top s) v)) h

-- ---- sides

-- what has v strictly on a side does not end there
pub right_not_top : (v : Position) (s : Segment) → is_right v s ≡ true → position_eq (top s) v ≡ false
right_not_top v s h =
    by_bool (position_eq (top s) v)
    (λ e. absurd (none (orientation (bottom s) (top s) v) (ap (orientation (bottom s) (top s)) (sym (position_eq-exact (top s) v e)) ∙ orientation-end (bottom s) (top s)) h))
    (λ e. e)
  where
    none : (z : ℤ) → z ≡ pos 0 → int_lt z (pos 0) ≡ true → ⊥
    none z e h = grind (arith, ints)

pub left_not_top : (v : Position) (s : Segment) → is_left v s ≡ true → position_eq (top s) v ≡ false
left_not_top v s h =
    by_bool (position_eq (top s) v)
    (λ e. absurd (none (orientation (bottom s) (top s) v) (ap (orientation (bottom s) (top s)) (sym (position_eq-exact (top s) v e)) ∙ orientation-end (bottom s) (top s)) h))
    (λ e. e)
  where
    none : (z : ℤ) → z ≡ pos 0 → int_lt (pos 0) z ≡ true → ⊥
    none z e h = grind (arith, ints)
