-- What is found among the segments near a move is what is found among all that are held.
use Rattle.kit_words.proofs.Common.{◌≡◌, ◌≤◌, ◌<◌, ◌+◌, ℕ, ℤ, Bool, true, false, not, refl, sym, ap, ◌∙◌, subst, List}
use Rattle.kit_words.proofs.Common.{[], ◌∷◌, ◌++◌, length, map, take, get_or, cond, ◌&&◌, ◌||◌, int_le, inl, inr}
use Rattle.kit_words.proofs.Common.{Option, None, arith, int_min, int_max, filter, list_any, sum_by, false≢true}
use Rattle.kit_words.proofs.Common.{take_more, sum_by-filter_both, sum_by-cons, ints, clamps, is_gt, and_parts}
use Rattle.kit_words.proofs.Common.{or_cases, or_right}
use Rattle.std.specs.FinSet as set
use Rattle.grid_geometry.specs.Common.{Position, position_cmp, Segment, Box, box_of, boxes_meet, is_end, segment}
use Rattle.grid_geometry.specs.Common.{conflict, is_held}
use Rattle.grid_geometry.proofs.Common.{conflict-boxes_meet, conflict-comm}
use Rattle.ring_machine.specs.Common.{Document, positions, least_conflict, pair_lt, edge_sweeps}
use Rattle.ring_machine.specs.Ring as machine
use Rattle.ring_machine.proofs.Common.{In, same_least, in-map, in_at}
use Rattle.segment_index.specs.Common.{box_around, is_within, SegmentSet, has, segment_is, set_of, times_in, times_by}
use Rattle.segment_index.specs.Common.{LieIn}
use Rattle.segment_index.proofs.Common.{gains-right, lie-more, contains-set_of, is-itself, times-push, times-some}
use Rattle.local_planarity.specs.Common.{EndingAt, NoneConflict, IsAfter, IsEnds, IsHeld, goes_away, stays_held, HasNearMove}
use Rattle.local_planarity.specs.Common.{box_of_three, least_of, most_of, most_given, most_tests}
use Rattle.local_planarity.proofs.Least.{Pair, BadIn, first_of_list, list_first}
use Rattle.local_planarity.proofs.Lists.{has-in, same_any}
use Rattle.local_planarity.proofs.Nearby.{has-filter}
use Rattle.local_planarity.proofs.Sweeping.{ends_held}

-- ---- boxes

-- one segment more lies in the widened box
pub reach_more : (way : Segment) (ss : List Segment) (i : ℕ) (s : Segment) (r k : Box) → i < length ss → s ≡ get_or ss i s
    → k ≡ box_around r (box_of s) → LieIn r (way ∷ take i ss) → LieIn k (way ∷ take (i + 1) ss)
reach_more way ss i s r k l here wide before =
    subst (λ z. LieIn z (way ∷ take (i + 1) ss)) (sym wide)
    (lie-more r s (way ∷ take i ss) (way ∷ take (i + 1) ss) before
    (gains-right s (way ∷ []) (take i ss) (take (i + 1) ss)
    (λ t. ap (λ z. times_in z t) (take_more ss i s l ∙ ap (λ u. take i ss ++ u ∷ []) (sym here)) ∙ times-push (take i ss) s t)))

-- what meets a stretch meets one around it
stretch_wider : (r0 r1 q0 q1 k0 k1 : ℤ) → (int_le k0 q0 && int_le q1 k1) ≡ true
    → (int_le r0 q1 && int_le q0 r1) ≡ true → (int_le r0 k1 && int_le k0 r1) ≡ true
stretch_wider r0 r1 q0 q1 k0 k1 w m = grind (arith, ints)

-- what meets a box meets one around it
meets_wider : (r q k : Box) → is_within q k ≡ true → boxes_meet r q ≡ true → boxes_meet r k ≡ true
meets_wider r q k w m =
    let inner = and_parts (int_le k.x0 q.x0 && int_le q.x1 k.x1) (int_le k.y0 q.y0 && int_le q.y1 k.y1) w in
    let both = and_parts (int_le r.x0 q.x1 && int_le q.x0 r.x1) (int_le r.y0 q.y1 && int_le q.y0 r.y1) m in
    λ i. stretch_wider r.x0 r.x1 q.x0 q.x1 k.x0 k.x1 inner.0 both.0 i && stretch_wider r.y0 r.y1 q.y0 q.y1 k.y0 k.y1 inner.1 both.1 i

-- the box of the segment between two positions
stretch_turned : (k0 k1 a b : ℤ) → (int_le k0 (int_min b a) && int_le (int_max b a) k1) ≡ true
    → (int_le k0 (int_min a b) && int_le (int_max a b) k1) ≡ true
stretch_turned k0 k1 a b w = grind (arith, ints, clamps)

segment_stretches : (a b : Position) (r : Box) → is_within (box_of (segment a b)) r ≡ true
    → ((int_le r.x0 (int_min a.x b.x) && int_le (int_max a.x b.x) r.x1) ≡ true)
    × ((int_le r.y0 (int_min a.y b.y) && int_le (int_max a.y b.y) r.y1) ≡ true)
segment_stretches a b r w = by (is_gt (position_cmp a b)) w
  where
    by : (g : Bool) → is_within (box_of (cond g (record { lo = b; hi = a }) (record { lo = a; hi = b }))) r ≡ true
        → ((int_le r.x0 (int_min a.x b.x) && int_le (int_max a.x b.x) r.x1) ≡ true)
        × ((int_le r.y0 (int_min a.y b.y) && int_le (int_max a.y b.y) r.y1) ≡ true)
    by true v =
        let both = and_parts (int_le r.x0 (int_min b.x a.x) && int_le (int_max b.x a.x) r.x1) (int_le r.y0 (int_min b.y a.y) && int_le (int_max b.y a.y) r.y1) v in
        (stretch_turned r.x0 r.x1 a.x b.x both.0, stretch_turned r.y0 r.y1 a.y b.y both.1)
    by false v = and_parts (int_le r.x0 (int_min a.x b.x) && int_le (int_max a.x b.x) r.x1) (int_le r.y0 (int_min a.y b.y) && int_le (int_max a.y b.y) r.y1) v

stretch_of_three : (k0 k1 a b c : ℤ) → (int_le k0 (int_min a c) && int_le (int_max a c) k1) ≡ true
    → (int_le k0 (int_min b c) && int_le (int_max b c) k1) ≡ true
    → (int_le k0 (least_of a b c) && int_le (most_of a b c) k1) ≡ true
stretch_of_three k0 k1 a b c v w = grind (arith, ints, clamps)

-- the box of three positions lies where the segments to the third lie
three_within : (a b c : Position) (r : Box) → is_within (box_of (segment a c)) r ≡ true
    → is_within (box_of (segment b c)) r ≡ true → is_within (box_of_three a b c) r ≡ true
three_within a b c r v w =
    let x = segment_stretches a c r v in
    let y = segment_stretches b c r w in
    λ i. stretch_of_three r.x0 r.x1 a.x b.x c.x x.0 y.0 i && stretch_of_three r.y0 r.y1 a.y b.y c.y x.1 y.1 i

-- ---- parts of a list

-- the part of a list that passes a test which no others pass
part_has : (f g : Segment → Bool) → ((t : Segment) → g t ≡ true → f t ≡ true) → (ss : List Segment)
    → ((t : Segment) → has ss t ≡ f t) → (t : Segment) → has (filter g ss) t ≡ g t
part_has f g into ss e t = has-filter g ss t ∙ ap (λ b. b && g t) (e t) ∙ absorb (f t) (g t) (into t)
  where
    absorb : (a b : Bool) → (b ≡ true → a ≡ true) → (a && b) ≡ b
    absorb true b k = refl
    absorb false true k = absurd (false≢true (k refl))
    absorb false false k = refl

sum_less : (f g : Segment → ℕ) → ((t : Segment) → f t ≤ g t) → (ss : List Segment)
    → sum_by f ss ≤ sum_by g ss
sum_less f g less [] = omega arith
sum_less f g less (s ∷ ss) =
    omega (arith, sum_less f g less ss, less s, sum_by-cons f s ss, sum_by-cons g s ss)

-- a part of a list, each of which counts no more
part_sum : (f g : Segment → ℕ) → ((t : Segment) → f t ≤ g t) → (p : Segment → Bool) (ss : List Segment)
    → sum_by f (filter p ss) ≤ sum_by g ss
part_sum f g less p ss = omega (arith, sum_by-filter_both p (λ s. not (p s)) (λ s. refl) f ss, sum_less f g less ss)

-- ---- what is near a move

module _ (held near : SegmentSet) (p q : Position) (after : List Segment) (m : HasNearMove held p q after near) where
  pub near_apart : NoneConflict held → NoneConflict near
  near_apart apart s t i j = apart s t (m.has_near.among s i) (m.has_near.among t j)

  moved_within : (s : Segment) → has (segment p q ∷ after) s ≡ true → is_within (box_of s) m.rect ≡ true
  moved_within s h = m.lie s (times-some (segment p q ∷ after) s h)

  -- what conflicts with the way, or with one that comes
  near_conflict : (s t : Segment) → has (segment p q ∷ after) s ≡ true → conflict s t ≡ true
      → set.contains held t ≡ true → set.contains near t ≡ true
  near_conflict s t w k here =
      m.has_near.covers t here (meets_wider (box_of t) (box_of s) m.rect (moved_within s w) (conflict-boxes_meet t s (conflict-comm t s ∙ k)))

  abbrev all_after : Segment → Bool
  all_after t = stays_held held (EndingAt p) t || has after t

  abbrev near_after : Segment → Bool
  near_after t = stays_held near (EndingAt p) t || has after t

  after_held : (t : Segment) → near_after t ≡ true → all_after t ≡ true
  after_held t e = elim (or_cases (stays_held near (EndingAt p) t) (has after t) e) [
    | inl k ↦
        let both = and_parts (set.contains near t) (not (goes_away (EndingAt p) t)) k in
        ap (λ b. b || has after t) (λ i. m.has_near.among t both.0 i && both.1 i)
    | inr k ↦ or_right (stays_held held (EndingAt p) t) (has after t) k
  ]

  -- of two that conflict after the move, each is near or comes
  near_side : NoneConflict held → (s t : Segment) → all_after s ≡ true → all_after t ≡ true → conflict s t ≡ true
      → near_after t ≡ true
  near_side apart s t i j k = elim (or_cases (stays_held held (EndingAt p) t) (has after t) j) [
    | inl h ↦
        let there = and_parts (set.contains held t) (not (goes_away (EndingAt p) t)) h in
        elim (or_cases (stays_held held (EndingAt p) s) (has after s) i) [
          | inl l ↦
              let here = and_parts (set.contains held s) (not (goes_away (EndingAt p) s)) l in
              absurd (false≢true (sym (apart s t here.0 there.0) ∙ k))
          | inr l ↦
              let close = near_conflict s t (or_right (segment_is s (segment p q)) (has after s) l) k there.0 in
              ap (λ b. b || has after t) (λ x. close x && there.1 x)
        ]
    | inr h ↦ or_right (stays_held near (EndingAt p) t) (has after t) h
  ]

  -- what is said of the first pair near by is said of the first pair of all
  pub near_first : NoneConflict held → (P : Option Pair → Type 0)
      → ((ss : List Segment) → IsAfter near (EndingAt p) after ss → P (least_conflict ss))
      → (ss : List Segment) → IsAfter held (EndingAt p) after ss → P (least_conflict ss)
  near_first apart P f ss e =
      let part = part_has all_after near_after after_held ss e in
      subst P
      (first_of_list near_after (filter near_after ss) (least_conflict ss) part
      (same_least pair_lt (BadIn all_after) (BadIn near_after)
      (λ u b. record {
        order = b.order;
        left = near_side apart u.1 u.0 b.right b.left (conflict-comm u.1 u.0 ∙ b.meet);
        right = near_side apart u.0 u.1 b.left b.right b.meet;
        meet = b.meet;
      })
      (λ u b. record { order = b.order; left = after_held u.0 b.left; right = after_held u.1 b.right; meet = b.meet })
      (least_conflict ss) (list_first all_after ss e)))
      (f (filter near_after ss) part)

  -- a way conflicts with the same
  pub near_way : (found : Bool)
      → ((ss : List Segment) → IsHeld near ss → found ≡ list_any (λ t. not (is_end p t) && conflict (segment p q) t) ss)
      → (ss : List Segment) → IsHeld held ss → found ≡ list_any (λ t. not (is_end p t) && conflict (segment p q) t) ss
  near_way found f ss e =
      let test : Segment → Bool = λ t. not (is_end p t) && conflict (segment p q) t in
      let part = part_has (set.contains held) (set.contains near) m.has_near.among ss e in
      f (filter (set.contains near) ss) part
      ∙ same_any test test (filter (set.contains near) ss) ss
      (λ t i k. (e t ∙ m.has_near.among t (sym (part t) ∙ i), k))
      (λ t i k. (
        part t ∙ near_conflict (segment p q) t (ap (λ b. b || has after (segment p q)) (is-itself (segment p q))) (and_parts (not (is_end p t)) (conflict (segment p q) t) k).1 (sym (e t) ∙ i),
        k,
      ))

  -- ---- how many tests

  module _ (times : Segment → Box → ℕ) (no_less : (s t : Segment) → times_by None t (box_of s) ≤ times t (box_of s)) (l n : ℕ) where
    given_less : (test : Segment → Bool) (ss : List Segment) (s : Segment)
        → most_given (times_by None) (filter test ss) s ≤ most_given times ss s
    given_less test ss s =
        part_sum (λ t. times_by None t (box_of s)) (λ t. times t (box_of s)) (λ t. no_less s t) test ss

    pub near_tests : ((ss : List Segment) → IsAfter near (EndingAt p) after ss → n ≤ l + most_tests (times_by None) ss after)
        → (ss : List Segment) → IsAfter held (EndingAt p) after ss → n ≤ l + most_tests times ss after
    near_tests few ss e =
        omega (
          arith,
          few (filter near_after ss) (part_has all_after near_after after_held ss e),
          sum_less (most_given (times_by None) (filter near_after ss)) (most_given times ss) (given_less near_after ss) after,
        )

    pub near_way_tests : ((ss : List Segment) → IsHeld near ss → n ≤ l + most_given (times_by None) ss (segment p q))
        → (ss : List Segment) → IsHeld held ss → n ≤ l + most_given times ss (segment p q)
    near_way_tests few ss e =
        omega (
          arith,
          few (filter (set.contains near) ss) (part_has (set.contains held) (set.contains near) m.has_near.among ss e),
          given_less (set.contains near) ss (segment p q),
        )

-- an edge at a position sweeps over what the segments near the move tell
pub near_edge : (d : Document) (held near : SegmentSet) (p q : Position) (around : List Position)
    → HasNearMove held p q (map (λ x. segment x q) around) near → IsEnds held (positions d)
    → (i : ℕ) (x : Position) → i < length around → x ≡ get_or around i x → (items : List Segment) (found : Bool) → set_of items ≡ near
    → found ≡ list_any (λ t. (not (machine.has (x ∷ p ∷ []) t.lo) && is_held t.lo x p q) || (not (machine.has (x ∷ p ∷ []) t.hi) && is_held t.hi x p q)) items
    → found ≡ edge_sweeps d p q x
near_edge d held near p q around m ends i x l here items found all is =
    let after = map (λ z. segment z q) around in
    let spoke = has-in after (segment x q) (in-map (λ z. segment z q) x around (subst (λ z. In z around) (sym here) (in_at around i x l))) in
    let wide = three_within x p q m.rect
    (moved_within held near p q after m (segment x q) (or_right (segment_is (segment x q) (segment p q)) (has after (segment x q)) spoke))
    (moved_within held near p q after m (segment p q) (ap (λ b. b || has after (segment p q)) (is-itself (segment p q)))) in
    let same : (t : Segment) → has items t ≡ set.contains near t = λ t. sym (contains-set_of items t) ∙ ap (λ z. set.contains z t) all in
    ends_held held (x ∷ p ∷ []) x p q items (positions d) found
    (λ t j. m.has_near.among t (sym (same t) ∙ j))
    (λ t j k. same t ∙ m.has_near.covers t j (meets_wider (box_of t) (box_of_three x p q) m.rect wide k))
    is ends
