-- The order of segments that do not conflict: how it begins where one of them begins, and what it says of a position that both reach.
use Rattle.kit_words.proofs.Common.{ℤ, pos, ◌≡◌, ◌≤ℤ◌, ◌<ℤ◌, arith, ap, ◌∙◌, ints, sym, true, false, IsTrue, by_bool, inl, inr}
use Rattle.kit_words.proofs.Common.{◌&&◌, int_lt, or_right, or_left, and_from, and_parts, not-true, false≢true, subst}
use Rattle.grid_geometry.specs.Common.{Position, Segment, IsSegment, orientation, position_eq, is_end, conflict}
use Rattle.layer_sides.specs.Common.{level_lt, bottom, top, is_under_way}
use Rattle.layer_sides.proofs.InOrder.{InOrder, is_right, is_left}
use Rattle.layer_sides.proofs.Levels.{rises, up_to_before, up_to_up_to, same_level}
use Rattle.layer_sides.proofs.Placing.{Between, placed_right, placed_left, placed_together}
use Rattle.layer_sides.proofs.Touching.{risen, conflict_both_risen, is_end_risen, not_cross, first_not_within, second_not_within}

-- ---- ends
is_end_top : (w : Position) (s : Segment) → level_lt w (top s) ≡ false → level_lt (top s) w ≡ false → is_end w s ≡ true
is_end_top w s h k = sym (is_end_risen w s) ∙ or_right (position_eq w (bottom s)) (position_eq w (top s)) (same_level w (top s) h k)

is_end_bottom : (w : Position) (s : Segment) → level_lt w (bottom s) ≡ false → level_lt (bottom s) w ≡ false → is_end w s ≡ true
is_end_bottom w s h k = sym (is_end_risen w s) ∙ or_left (position_eq w (bottom s)) (position_eq w (top s)) (same_level w (bottom s) h k)

-- ---- one place where the order fails
-- both reach w, which is not an end of both, and is neither right of t nor left of u
record Fails (t u : Segment) (w : Position) : Type 0 where
  fields : Between (bottom t) (top t) (bottom u) (top u) w
  end : (is_end w t && is_end w u) ≡ false

-- the order holds where it fails at no place
from_places : (t u : Segment) → IsSegment t → IsSegment u → ((w : Position) → Fails t u w → ⊥) → InOrder t u
from_places t u ht hu f w a b e =
    let p = and_parts _ _ a in
    let q = and_parts _ _ b in
    by_bool (is_right w t) inl
    (λ (r : is_right w t ≡ false). by_bool (is_left w u) inr
    (λ (l : is_left w u ≡ false). absurd (f w (record {
      fields = record {
        begun = not-true _ p.0;
        ends = not-true _ p.1;
        other_begun = not-true _ q.0;
        other_ends = not-true _ q.1;
        rises = rises t ht;
        other_rises = rises u hu;
        not_right = at_least _ r;
        not_left = at_most _ l;
      };
      end = e;
    }))))
  where
    at_least : (z : ℤ) → int_lt z (pos 0) ≡ false → pos 0 ≤ℤ z
    at_least z h = grind (arith, ints)

    at_most : (z : ℤ) → int_lt (pos 0) z ≡ false → z ≤ℤ pos 0
    at_most z h = grind (arith, ints)

-- where w is at the height of the top of t, which is on u: it would end within u, or w is the top of both
touches : (t u : Segment) (w : Position) → Fails t u w → conflict t u ≡ false → level_lt (bottom u) (top t) ≡ true
    → level_lt w (top t) ≡ false → orientation (bottom u) (top u) (top t) ≡ pos 0 → ⊥
touches t u w h c k l z =
    by_bool (level_lt (top t) (top u))
    (λ (m : level_lt (top t) (top u) ≡ true). first_not_within (risen t) (risen u) (conflict_both_risen t u ∙ c) k m z)
    (λ (m : level_lt (top t) (top u) ≡ false).
    false≢true (sym h.end ∙ and_from _ _ (is_end_top w t l h.fields.ends) (is_end_top w u (up_to_up_to (top u) (top t) w m l) h.fields.other_ends)))

touched : (t u : Segment) (w : Position) → Fails t u w → conflict t u ≡ false → level_lt (bottom t) (top u) ≡ true
    → level_lt w (top u) ≡ false → orientation (bottom t) (top t) (top u) ≡ pos 0 → ⊥
touched t u w h c k l z =
    by_bool (level_lt (top u) (top t))
    (λ (m : level_lt (top u) (top t) ≡ true). second_not_within (risen t) (risen u) (conflict_both_risen t u ∙ c) k m z)
    (λ (m : level_lt (top u) (top t) ≡ false).
    false≢true (sym h.end ∙ and_from _ _ (is_end_top w t (up_to_up_to (top t) (top u) w m l) h.fields.ends) (is_end_top w u l h.fields.other_ends)))

below : (z : ℤ) → int_lt z (pos 0) ≡ true → z <ℤ pos 0
below z h = grind (arith, ints)

above : (z : ℤ) → int_lt (pos 0) z ≡ true → pos 0 <ℤ z
above z h = grind (arith, ints)

-- ---- how the order begins
-- u begins at v, strictly right of t, which is under way there
pub born_right : (t u : Segment) (v : Position) → IsSegment t → IsSegment u → conflict t u ≡ false
    → IsTrue (is_under_way v t) → bottom u ≡ v → IsTrue (is_right v t) → InOrder t u
born_right t u v ht hu c way e right =
    let p = and_parts _ _ (ap (λ z. is_under_way z t) e ∙ way) in
    let ac : level_lt (bottom u) (bottom t) ≡ false = not-true _ p.0 in
    let cb : level_lt (bottom u) (top t) ≡ true = p.1 in
    let side : orientation (bottom t) (top t) (bottom u) <ℤ pos 0 = below _ (ap (λ z. is_right z t) e ∙ right) in
    let ad : level_lt (bottom t) (top u) ≡ true = up_to_before (bottom t) (bottom u) (top u) ac (rises u hu) in
    from_places t u ht hu (λ w h. placed_right (bottom t) (top t) (bottom u) (top u) w h.fields ac cb side
    (not_cross (risen t) (risen u) (conflict_both_risen t u ∙ c)) (touches t u w h c cb) (touched t u w h c ad))

-- t begins at v, strictly left of u, which is under way there
pub born_left : (t u : Segment) (v : Position) → IsSegment t → IsSegment u → conflict t u ≡ false
    → IsTrue (is_under_way v u) → bottom t ≡ v → IsTrue (is_left v u) → InOrder t u
born_left t u v ht hu c way e left =
    let p = and_parts _ _ (ap (λ z. is_under_way z u) e ∙ way) in
    let ca : level_lt (bottom t) (bottom u) ≡ false = not-true _ p.0 in
    let ad : level_lt (bottom t) (top u) ≡ true = p.1 in
    let side : pos 0 <ℤ orientation (bottom u) (top u) (bottom t) = above _ (ap (λ z. is_left z u) e ∙ left) in
    let cb : level_lt (bottom u) (top t) ≡ true = up_to_before (bottom u) (bottom t) (top t) ca (rises t ht) in
    from_places t u ht hu (λ w h. placed_left (bottom t) (top t) (bottom u) (top u) w h.fields ca ad side
    (not_cross (risen t) (risen u) (conflict_both_risen t u ∙ c)) (touches t u w h c cb) (touched t u w h c ad))

-- both begin at one position, and u ends strictly right of t
pub born_together : (t u : Segment) → IsSegment t → IsSegment u → bottom t ≡ bottom u → IsTrue (is_right (top u) t) → InOrder t u
born_together t u ht hu e right = from_places t u ht hu at
  where
    at : (w : Position) → Fails t u w → ⊥
    at w h =
        let f : Between (bottom t) (top t) (bottom t) (top u) w = subst (λ z. Between (bottom t) (top t) z (top u) w) (sym e) h.fields in
        let low : level_lt (bottom t) w ≡ false = placed_together (bottom t) (top t) (top u) w f (below _ right) in
        let low_u : level_lt (bottom u) w ≡ false = ap (λ z. level_lt z w) (sym e) ∙ low in
        false≢true (sym h.end ∙ and_from _ _ (is_end_bottom w t f.begun low) (is_end_bottom w u h.fields.other_begun low_u))
