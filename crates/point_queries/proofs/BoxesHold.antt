-- What is held after an add, and what is given for a position.
use Rattle.kit_words.proofs.Common.{◌≡◌, ◌≤◌, ◌<◌, ◌+◌, ℕ, ℤ, Bool, true, false, cond, None, subst, ◌&&◌, ◌||◌, refl}
use Rattle.kit_words.proofs.Common.{sym, ap, ◌∙◌, int_le, List, [], ◌++◌, length, get_or, take, inl, inr, Result, Ok}
use Rattle.kit_words.proofs.Common.{Err, OnOk, OnErr, arith, int_min, int_max, list_any, ints, list_any_more}
use Rattle.kit_words.proofs.Common.{list_any_at, or_cases}
use Rattle.std.specs.FinSet as set
use Rattle.grid_geometry.specs.Common.{Position, Segment, box_of, boxes_meet, segment_eq}
use Rattle.ring_machine.proofs.Common.{same_answer}
use Rattle.segment_index.specs.Common.{SegmentSet, Gives, has, segment_is, times_in, times_by}
use Rattle.segment_index.proofs.Common.{same_segment, segment_eq-is, segment_total, is-itself, times-some}
use Rattle.point_queries.specs.Common.{box_at, is_within_diagonal, AreBoxesOf, IsWidened, StaysHeld}

-- ---- the boxes that are held

side : (a b : ℤ) → (int_le (int_min a b) a && int_le a (int_max a b)) ≡ true
side a b = grind (arith, ints)

-- a box is held where it is among those that have its first corner
pub held_among : (boxes : SegmentSet) (d : Segment) (near : List Segment) → AreBoxesOf boxes d.lo near
    → list_any (λ t. segment_eq t d) near ≡ set.contains boxes d
held_among boxes d near a =
    (λ i. list_any (λ t. segment_eq-is d t i) near)
    ∙ same_answer (has near d) (set.contains boxes d) (a.among d) (λ h. a.each d h (λ i. side d.lo.x d.hi.x i && side d.lo.y d.hi.y i))

inserted : (old new : SegmentSet) (d : Segment) → new ≡ set.insert old d → StaysHeld old new
inserted old new d e t h =
    ap (λ s. set.contains s t) e ∙ set.contains-insert segment_total old d t ∙ ap (λ b. segment_is t d || b) h ∙ or_itself (segment_is t d)
  where
    or_itself : (b : Bool) → (b || true) ≡ true
    or_itself b = grind arith

-- an add that may have failed
pub added_stays : {X E : Type 0} (r : Result X E) (old new : SegmentSet) (d : Segment) → OnOk r (new ≡ set.insert old d)
    → OnErr r (new ≡ old) → StaysHeld old new
added_stays (Ok x) old new d ok err = inserted old new d ok
added_stays (Err e) old new d ok err = λ t h. ap (λ s. set.contains s t) err ∙ h

-- ---- the boxes that are widened

widened_stays : (old new : SegmentSet) (d : Segment) (p : Position) → StaysHeld old new → IsWidened old d p → IsWidened new d p
widened_stays old new d p stays w = (w.0, stays w.0 w.1, w.2)

pub next_widened : (boxes : List Segment) (i : ℕ) (d : Segment) (p : Position) (old new : SegmentSet) → i < length boxes
    → d ≡ get_or boxes i d → StaysHeld old new → IsWidened new d p
    → ((t : Segment) → has (take i boxes) t ≡ true → IsWidened old t p)
    → (t : Segment) → has (take (i + 1) boxes) t ≡ true → IsWidened new t p
next_widened boxes i d p old new lt here stays w below t h =
    elim (or_cases (has (take i boxes) t) (segment_is t (get_or boxes i d)) (sym (list_any_more (segment_is t) boxes i d lt) ∙ h)) [
      | inl e ↦ widened_stays old new t p stays (below t e)
      | inr e ↦ subst (λ s. IsWidened new s p) (sym (same_segment t (get_or boxes i d) e ∙ sym here)) w
    ]

-- an item of a list is among its segments
pub item_has : (boxes : List Segment) (i : ℕ) (d : Segment) → i < length boxes → d ≡ get_or boxes i d → has boxes d ≡ true
item_has boxes i d lt here = list_any_at (segment_is d) boxes i d lt (ap (segment_is d) (sym here) ∙ is-itself d)

-- ---- the boxes that are given for a position

pub given_boxes : (boxes : SegmentSet) (p : Position) (old new : List Segment) → old ≡ []
    → Gives boxes (times_by None) (box_at p) old new true → AreBoxesOf boxes p new
given_boxes boxes p old new none g = record {
  among = λ d h. g.among d (as_found d h);
  have_it = λ d h. by d (boxes_meet (box_of d) (box_at p)) refl (times-some g.found d (as_found d h));
  each = λ d h k. ap (λ ts. has ts d) found ∙ g.covers refl d h k;
}
  where
    found : new ≡ g.found
    found = g.appended ∙ ap (λ ts. ts ++ g.found) none

    as_found : (d : Segment) → has new d ≡ true → has g.found d ≡ true
    as_found d h = ap (λ ts. has ts d) (sym found) ∙ h

    by : (d : Segment) (b : Bool) → is_within_diagonal d p ≡ b → 1 ≤ times_in g.found d → is_within_diagonal d p ≡ true
    by d true e h = e
    by d false e h = let k : cond {A = ℕ} (is_within_diagonal d p) 1 0 ≡ 0 = ap (λ b. cond {A = ℕ} b 1 0) e in absurd (omega (arith, h, k, g.few d))
