-- A vertex, with the list of the borders that await it: what is in the list, and the list of those under way behind it.
use Rattle.kit_words.proofs.Common.{◌≡◌, ℕ, ◌<◌, ◌&&◌, Bool, true, false, refl, sym, ap, ◌∙◌}
use Rattle.kit_words.proofs.Common.{subst, arith, List, ◌++◌, map, length, take, drop, ⊎_elim}
use Rattle.kit_words.proofs.Common.{IsTrue, IsPermutation, All-from_recursion, cond, nat_lt}
use Rattle.kit_words.proofs.Common.{ltb-true, map-append, append_assoc, take-append-drop, drop_split, slice_range}
use Rattle.kit_words.proofs.Common.{recursion_from_All, false≢true}
use Rattle.grid_geometry.specs.Common.{IsSegment, Segment, conflict, position_eq}
use Rattle.ring_machine.proofs.Common.{In, contains_in, in-append, in_left, in_mapped, in_recursion, in_right, position_eq-refl}
use Rattle.layer_sides.specs.Common.{Bordering, bottom, is_under_way, level_lt, top}
use Rattle.layer_sides.specs.Under.{AreApartFrom, AreBelow, AreInOrder, AreNumbered, AreSegments, AreTurned, BegunAt, CutsAt}
use Rattle.layer_sides.specs.Under.{ListsPlaces, NoneConflict, Rewrites, Stands, VertexOf, awaits, border_at, borders_at}
use Rattle.layer_sides.specs.Under.{is_odd_of, segment_at, segments_of, times}
use Rattle.layer_sides.proofs.Aligned.{Begins, all_left, all_right, from_in, order_after, order_back, order_front}
use Rattle.layer_sides.proofs.Events.{position_eq-exact}
use Rattle.layer_sides.proofs.InOrder.{is_left, is_right, reaches}
use Rattle.layer_sides.proofs.Levelled.{awaits_reaches, begins_apart, left_not_top, right_not_top, way_after, way_on}
use Rattle.layer_sides.proofs.Levels.{rises}
use Rattle.layer_sides.proofs.Numbering.{numbered_after, numbered_back, same_borders}
use Rattle.layer_sides.proofs.Places.{in_times, listed_after, none_times, times-permuted}
use Rattle.layer_sides.proofs.Sweeping.{segment_there}
use Rattle.layer_sides.proofs.Turned.{turned_in_order}

-- a place in a list of those below n that pass
pub record IsListed (n : ℕ) (test : ℕ → Bool) (i : ℕ) : Type 0 where
  pub below : i < n
  pub passes : test i ≡ true

pub listed : (n : ℕ) (test : ℕ → Bool) (places : List ℕ) → ListsPlaces n test places → (i : ℕ) → In i places → IsListed n test i
listed n test places h i j = by (nat_lt i n) refl (test i) refl (h i) (in_times i places j)
  where
    by : (a : Bool) → nat_lt i n ≡ a → (b : Bool) → test i ≡ b → times i places ≡ cond (a && b) 1 0 → 0 < times i places → IsListed n test i
    by true e true f k l = record { below = ltb-true i n e; passes = f }
    by true e false f k l = absurd (omega arith)
    by false e b f k l = absurd (omega arith)

pub listed_once : (n : ℕ) (test : ℕ → Bool) (places : List ℕ) → ListsPlaces n test places → (i : ℕ) → In i places → times i places ≡ 1
listed_once n test places h i j = by (nat_lt i n && test i) (h i) (in_times i places j)
  where
    by : (a : Bool) → times i places ≡ cond a 1 0 → 0 < times i places → times i places ≡ 1
    by true k l = k
    by false k l = absurd (omega arith)

pub below_listed : (n : ℕ) (test : ℕ → Bool) (places : List ℕ) → ListsPlaces n test places → AreBelow n places
below_listed n test places h =
    All-from_recursion (λ i. i < n) places (from_in (λ i. i < n) places (λ i j. (listed n test places h i j).below))

module _ (bs : List Bordering) (v : VertexOf) (places begun : List ℕ) (b e : ℕ)
    (segments : AreSegments (segments_of bs)) (apart : NoneConflict (segments_of bs))
    (st : Stands bs (awaits v.0) places) (has : BegunAt (segments_of bs) (length (segments_of bs)) v)
    (cut : CutsAt (segments_of bs) places v.0 b e) (perm : IsPermutation v.1 begun) where
  abbrev seg : ℕ → Segment
  seg i = segment_at (segments_of bs) i

  abbrev front : List ℕ
  front = take b places

  abbrev ended : List ℕ
  ended = slice_range places b e

  abbrev back : List ℕ
  back = drop e places

  rest_is : drop b places ≡ ended ++ back
  rest_is = drop_split places b e cut.rising

  parts : places ≡ front ++ ended ++ back
  parts = sym (take-append-drop b places) ∙ ap (λ ks. front ++ ks) rest_is ∙ sym (append_assoc front ended back)

  in_parts : (i : ℕ) → In i (front ++ ended ++ back) → In i places
  in_parts i h = subst (In i) (sym parts) h

  of_front : (i : ℕ) → In i front → In i places
  of_front i h = in_parts i (in_left i (front ++ ended) back (in_left i front ended h))

  of_ended : (i : ℕ) → In i ended → In i places
  of_ended i h = in_parts i (in_left i (front ++ ended) back (in_right i front ended h))

  of_back : (i : ℕ) → In i back → In i places
  of_back i h = in_parts i (in_right i (front ++ ended) back h)

  waits : (i : ℕ) → In i places → IsListed (length (segments_of bs)) (λ i. awaits v.0 (seg i)) i
  waits i h = listed (length (segments_of bs)) (λ i. awaits v.0 (seg i)) places st.exact i h

  come : ListsPlaces (length (segments_of bs)) (λ i. position_eq (bottom (seg i)) v.0) begun
  come i = times-permuted i v.1 begun perm ∙ has i

  comes : (i : ℕ) → In i begun → IsListed (length (segments_of bs)) (λ i. position_eq (bottom (seg i)) v.0) i
  comes i h = listed (length (segments_of bs)) (λ i. position_eq (bottom (seg i)) v.0) begun come i h

  is_seg : (i : ℕ) → i < length (segments_of bs) → IsSegment (seg i)
  is_seg i l = segments (seg i) (segment_there (segments_of bs) i l)

  begins : (i : ℕ) → In i begun → Begins v.0 (seg i)
  begins i h = record {
    segment = is_seg i (comes i h).below;
    at = position_eq-exact (bottom (seg i)) v.0 (comes i h).passes;
  }

  -- ---- what is asked of the numbers

  pub below_all : AreBelow (length (segments_of bs)) (begun ++ back)
  below_all =
      All-from_recursion (λ i. i < length (segments_of bs)) (begun ++ back)
      (from_in (λ i. i < length (segments_of bs)) (begun ++ back)
      (λ i h. ⊎_elim (λ (j : In i begun). (comes i j).below) (λ (j : In i back). (waits i (of_back i j)).below) (in-append i begun back h)))

  -- the places of the list from one on
  from_rest : (k i : ℕ) → In i (drop k places) → In i places
  from_rest k i h = subst (In i) (take-append-drop k places) (in_right i (take k places) (drop k places) h)

  pub below_rest : (k : ℕ) → AreBelow (length (segments_of bs)) (drop k places)
  below_rest k =
      All-from_recursion (λ i. i < length (segments_of bs)) (drop k places)
      (from_in (λ i. i < length (segments_of bs)) (drop k places) (λ i h. (waits i (from_rest k i h)).below))

  -- what begins at the vertex is not in the list
  not_there : (i : ℕ) → In i begun → In i places → ⊥
  not_there i h j = unlike (waits i j).passes (begins_apart v.0 (seg i) (comes i h).passes)
    where
      unlike : {x : Bool} → x ≡ true → x ≡ false → ⊥
      unlike p q = false≢true (sym q ∙ p)

  pub apart_from : AreApartFrom back begun
  apart_from i c =
      let h = contains_in begun i c in (
        listed_once (length (segments_of bs)) (λ i. position_eq (bottom (seg i)) v.0) begun come i h,
        none_times i back (λ j. not_there i h (of_back i j)),
      )

  pub numbered_rest : (k : ℕ) → AreNumbered (borders_at bs (drop k places))
  numbered_rest k =
      numbered_back (borders_at bs (take k places)) (borders_at bs (drop k places))
      (subst AreNumbered (ap (borders_at bs) (sym (take-append-drop k places)) ∙ map-append (border_at bs) (take k places) (drop k places)) st.numbered)

  -- ---- sides

  waits_reach : (i : ℕ) → In i places → IsTrue (reaches v.0 (seg i))
  waits_reach i h = awaits_reaches v.0 (seg i) (waits i h).passes

  three : map seg places ≡ map seg front ++ map seg ended ++ map seg back
  three = ap (map seg) parts ∙ map-append seg (front ++ ended) back ∙ ap (λ ss. ss ++ map seg back) (map-append seg front ended)

  ordered : AreInOrder (map seg front ++ map seg ended ++ map seg back)
  ordered = subst AreInOrder three st.ordered

  right : (i : ℕ) → In i front → IsTrue (is_right v.0 (seg i))
  right =
      all_right seg v.0 front (order_front (map seg front) (map seg ended) (order_front (map seg front ++ map seg ended) (map seg back) ordered))
      (λ i h. waits_reach i (of_front i h)) cut.behind

  left : (i : ℕ) → In i back → IsTrue (is_left v.0 (seg i))
  left =
      all_left seg v.0 back (order_back (map seg front ++ map seg ended) (map seg back) ordered)
      (λ i h. waits_reach i (of_back i h)) cut.before

  risen : (i : ℕ) → i < length (segments_of bs) → level_lt (bottom (seg i)) (top (seg i)) ≡ true
  risen i l = rises (seg i) (is_seg i l)

  go_front : (i : ℕ) → In i front → position_eq (top (seg i)) v.0 ≡ false
  go_front i h = right_not_top v.0 (seg i) (right i h)

  go_back : (i : ℕ) → In i back → position_eq (top (seg i)) v.0 ≡ false
  go_back i h = left_not_top v.0 (seg i) (left i h)

  goes_on : (i : ℕ) → In i places → position_eq (top (seg i)) v.0 ≡ false → IsTrue (is_under_way v.0 (seg i))
  goes_on i h k = way_on v.0 (seg i) (risen i (waits i h).below) (waits i h).passes k

  ends : (i : ℕ) → In i ended → position_eq (top (seg i)) v.0 ≡ true
  ends i h =
      ap (λ p. position_eq p v.0) (in_recursion (λ i. top (seg i) ≡ v.0) ended i (recursion_from_All (λ i. top (seg i) ≡ v.0) ended cut.ended) h)
      ∙ position_eq-refl v.0

  none_conflict : (i j : ℕ) → i < length (segments_of bs) → j < length (segments_of bs) → conflict (seg i) (seg j) ≡ false
  none_conflict i j k l = apart (seg i) (seg j) (segment_there (segments_of bs) i k) (segment_there (segments_of bs) j l)

  -- ---- the list behind the vertex

  exact : ListsPlaces (length (segments_of bs)) (λ i. is_under_way v.0 (seg i)) (front ++ begun ++ back)
  exact =
      listed_after (length (segments_of bs)) (λ i. awaits v.0 (seg i)) (λ i. position_eq (top (seg i)) v.0)
      (λ i. position_eq (bottom (seg i)) v.0) (λ i. is_under_way v.0 (seg i)) front ended back begun
      (subst (ListsPlaces (length (segments_of bs)) (λ i. awaits v.0 (seg i))) parts st.exact)
      come
      ends go_front go_back
      (λ i l. way_after v.0 (seg i) (risen i l))
      (λ i h. begins_apart v.0 (seg i) h)

  pub order_behind : AreTurned (segments_of bs) begun → AreInOrder (map seg (front ++ begun ++ back))
  order_behind turned =
      order_after seg v.0 front ended back begun
      (λ i j h k. let l = (waits i (in_parts i h)).below in
      let m : j < length (segments_of bs) = (comes j k).below in
      (none_conflict i j l m, none_conflict j i m l))
      (λ i h. is_seg i (waits i (in_parts i h)).below)
      begins (subst (λ ks. AreInOrder (map seg ks)) parts st.ordered)
      (turned_in_order v.0 (segments_of bs) begun turned
      (λ s h. let a = in_mapped seg s begun h in subst (Begins v.0) a.2 (begins a.0 a.1)))
      (λ i h. goes_on i (of_front i h) (go_front i h))
      (λ i h. goes_on i (of_back i h) (go_back i h))
      right left

  -- ---- with the numbers

  module _ (cs : List Bordering) (turned : AreTurned (segments_of bs) begun) (rewrites : Rewrites begun bs cs)
      (numbered : AreNumbered (borders_at cs (begun ++ back)))
      (same : (n : ℕ) → is_odd_of n (borders_at cs (begun ++ back)) ≡ is_odd_of n (borders_at bs (drop b places))) where
    -- the numbers of those before are as they were
    front_same : borders_at cs front ≡ borders_at bs front
    front_same = same_borders bs cs front (λ i h. rewrites.others i (none_times i begun (λ j. not_there i j (of_front i h))))

    numbered_all : AreNumbered (borders_at cs (front ++ begun ++ back))
    numbered_all =
        subst AreNumbered
        (ap (λ ds. ds ++ borders_at cs (begun ++ back)) (sym front_same)
        ∙ sym (map-append (border_at cs) front (begun ++ back)) ∙ ap (borders_at cs) (sym (append_assoc front begun back)))
        (numbered_after (borders_at bs front) (borders_at bs (drop b places)) (borders_at cs (begun ++ back))
        (subst AreNumbered (ap (borders_at bs) (sym (take-append-drop b places)) ∙ map-append (border_at bs) front (drop b places)) st.numbered)
        numbered same)

    pub stands_behind : Stands cs (is_under_way v.0) (front ++ begun ++ back)
    stands_behind = record {
      exact = subst (λ ss. ListsPlaces (length ss) (λ i. is_under_way v.0 (segment_at ss i)) (front ++ begun ++ back)) (sym rewrites.segments) exact;
      ordered = subst (λ ss. AreInOrder (map (segment_at ss) (front ++ begun ++ back))) (sym rewrites.segments) (order_behind turned);
      numbered = numbered_all;
    }

    -- what was written stands at the places that the vertex has
    pub rewrites_vertex : Rewrites v.1 bs cs
    rewrites_vertex = record {
      segments = rewrites.segments;
      bounds = rewrites.bounds;
      others = λ i h. rewrites.others i (times-permuted i v.1 begun perm ∙ h);
    }
