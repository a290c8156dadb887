-- What the lists at all vertices say of each border: which polygons hold its right side.
use Rattle.kit_words.proofs.Common.{◌≡◌, ℕ, suc, ◌+◌, ◌<◌, ◌&&◌, Bool, true, false, refl, sym, ap, ap₂, ◌∙◌, subst, arith}
use Rattle.kit_words.proofs.Common.{List, [], ◌∷◌, ◌++◌, map, length, get_or, inl, inr, Contains, IsTrue, ints, neg_ℤ, ℤ}
use Rattle.kit_words.proofs.Common.{ltb-true, get_or-map, get_or_at, get_or_default, length-map, map-append, append_assoc, cond, nat_lt, lt-ltb}
use Rattle.kit_words.proofs.Common.{IsStrictlySortedBy}
use Rattle.std.specs.Ordering.{nat_cmp}
use Rattle.grid_geometry.specs.Common.{IsSegment, Position, Segment, xor}
use Rattle.grid_geometry.proofs.Conflicts.{position-path}
use Rattle.ring_machine.proofs.Common.{In, contains_in, in_contains, in_left, in_mapped, in_recursion, in_right}
use Rattle.layer_sides.specs.Common.{AreSwept, Bordering, bottom, counts_for, doubled, has_number, is_odd_at, is_under_way}
use Rattle.layer_sides.specs.Common.{level_lt, middle, top}
use Rattle.layer_sides.specs.Under.{AreInOrder, AreNumbered, AreSegments, AreVertices, Stands, StandsAtEach}
use Rattle.layer_sides.specs.Under.{VertexOf, border_at, borders_at, is_odd_of, segment_at, segments_of, times, turned, twice}
use Rattle.layer_sides.proofs.Aligned.{map_in, order_across, order_back}
use Rattle.layer_sides.proofs.Doubling.{InFineOrder, bottom-doubled, top-doubled, under_way_between}
use Rattle.layer_sides.proofs.Gaps.{Gap, gap}
use Rattle.layer_sides.proofs.Levels.{not_back}
use Rattle.layer_sides.proofs.Middles.{bottom_before_middle, counts_before, counts_behind, counts_elsewhere, counts_itself}
use Rattle.layer_sides.proofs.Middles.{middle_before_top, middle_under_way}
use Rattle.layer_sides.proofs.Numbering.{numbered_back}
use Rattle.layer_sides.proofs.Odds.{odd, odd-alike, odd-append, odd-none}
use Rattle.layer_sides.proofs.Places.{Around, around, in_times, odd_listed, places_from, times_in}

-- ---- by places

-- all borders are asked, place by place
by_place : (n : ℕ) (w : Position) (front bs : List Bordering)
    → is_odd_at bs n w ≡ odd (λ i. has_number n (border_at (front ++ bs) i).bounds && counts_for w (border_at (front ++ bs) i).segment)
    (places_from (length front) bs)
by_place n w front [] = refl
by_place n w front (b ∷ bs) =
    ap₂ (λ c d. xor (has_number n c.bounds && counts_for w c.segment) d) (sym here)
    (by_place n w (front ++ b ∷ []) bs
    ∙ ap₂ (λ cs k. odd (λ i. has_number n (border_at cs i).bounds && counts_for w (border_at cs i).segment) (places_from k bs))
    (append_assoc front (b ∷ []) bs) longer)
  where
    here : border_at (front ++ b ∷ bs) (length front) ≡ b
    here = get_or_at front b bs _ (length front) refl

    longer : length (front ++ b ∷ []) ≡ suc (length front)
    longer = length_pushed front
      where
        length_pushed : (cs : List Bordering) → length (cs ++ b ∷ []) ≡ suc (length cs)
        length_pushed [] = refl
        length_pushed (c ∷ cs) = ap suc (length_pushed cs)

place_below : {X : Type 0} (i k : ℕ) (xs : List X) → In i (places_from k xs) → i < k + length xs
place_below i k [] h = absurd h
place_below i k (x ∷ xs) (inl e) = omega arith
place_below i k (x ∷ xs) (inr h) = let l = place_below i (suc k) xs h in omega (arith, l)

-- the segment at a place is that of the border there
pub at_segment : (bs : List Bordering) (i : ℕ) → i < length bs → segment_at (segments_of bs) i ≡ (border_at bs i).segment
at_segment bs i l = get_or-map (λ (b : Bordering). b.segment) bs i _ _ l

pub segment_there : (ss : List Segment) (i : ℕ) → i < length ss → Contains ss (segment_at ss i)
segment_there ss i l = (i, l, get_or_default ss i _ _ l)

pub turned_same : (p q : Position) → turned p ≡ turned q → p ≡ q
turned_same p q e = position-path p q (opposite p.x q.x (ap (λ (z : Position). z.y) e)) (ap (λ (z : Position). z.x) e)
  where
    opposite : (x y : ℤ) → neg_ℤ x ≡ neg_ℤ y → x ≡ y
    opposite x y h = omega (arith, ints)

-- the vertex at an end
pub record VertexAt (vs : List VertexOf) (p : Position) : Type 0 where
  pub vertex : VertexOf
  pub among : In vertex vs
  pub at : vertex.0 ≡ p

pub vertex_at : (vs : List VertexOf) (p : Position) → Contains (map (λ v. turned v.0) vs) (turned p) → VertexAt vs p
vertex_at vs p h =
    let k = in_mapped (λ (v : VertexOf). turned v.0) (turned p) vs (contains_in (map (λ (v : VertexOf). turned v.0) vs) (turned p) h) in
    record { vertex = k.0; among = k.1; at = turned_same k.0.0 p k.2 }

module _ (bs : List Bordering) (vs : List VertexOf) (segments : AreSegments (segments_of bs))
    (vertices : AreVertices (segments_of bs) vs) (stands : StandsAtEach bs is_under_way vs) (i : ℕ) (bound : i < length bs) where
  abbrev seg : ℕ → Segment
  seg j = segment_at (segments_of bs) j

  abbrev m : Position
  m = middle (seg i)

  there : (j : ℕ) → j < length bs → Contains (segments_of bs) (seg j)
  there j l = segment_there (segments_of bs) j (subst (λ n. j < n) (sym (length-map bs (λ (b : Bordering). b.segment))) l)

  is_seg : IsSegment (seg i)
  is_seg = segments (seg i) (there i bound)

  begin : VertexAt vs (bottom (seg i))
  begin = vertex_at vs (bottom (seg i)) (vertices.bottoms (seg i) (there i bound))

  end : VertexAt vs (top (seg i))
  end = vertex_at vs (top (seg i)) (vertices.tops (seg i) (there i bound))

  g : Gap vs m
  g =
      gap vs m vertices.rising begin.vertex end.vertex begin.among end.among
      (subst (λ z. level_lt m (doubled z) ≡ false) (sym begin.at)
      (subst (λ z. level_lt m z ≡ false) (bottom-doubled (seg i)) (not_back (bottom (twice (seg i))) m (bottom_before_middle (seg i) is_seg))))
      (subst (λ z. level_lt m (doubled z) ≡ true) (sym end.at)
      (subst (λ z. level_lt m z ≡ true) (top-doubled (seg i)) (middle_before_top (seg i) is_seg)))

  -- a vertex after the one before the middle is not before the one after it
  not_between : (p : Position) → VertexAt vs p → level_lt g.before.0 p ≡ true → level_lt p g.after.0 ≡ false
  not_between p v h =
      subst (λ z. level_lt z g.after.0 ≡ false) v.at (g.none v.vertex v.among (subst (λ z. level_lt g.before.0 z ≡ true) (sym v.at) h))

  kept : (j : ℕ) → j < length bs → is_under_way m (twice (seg j)) ≡ is_under_way g.before.0 (seg j)
  kept j l =
      under_way_between g.before.0 g.after.0 m (seg j) g.since g.until
      (not_between (bottom (seg j)) (vertex_at vs (bottom (seg j)) (vertices.bottoms (seg j) (there j l))))
      (not_between (top (seg j)) (vertex_at vs (top (seg j)) (vertices.tops (seg j) (there j l))))

  places : List ℕ
  places = (stands g.before (in_contains vs g.before g.in_before)).0

  st : Stands bs (is_under_way g.before.0) places
  unfolding places
  st = (stands g.before (in_contains vs g.before g.in_before)).1

  long : length (segments_of bs) ≡ length bs
  long = length-map bs (λ (b : Bordering). b.segment)

  -- what is in the list is a place of a border that is under way
  in_list : (j : ℕ) → In j places → (j < length bs) × (is_under_way g.before.0 (seg j) ≡ true)
  in_list j h = by (nat_lt j (length (segments_of bs))) refl (is_under_way g.before.0 (seg j)) refl (sym (st.exact j))
    where
      use_times : 0 < times j places
      use_times = in_times j places h

      none : {n : ℕ} → 0 ≡ n → 0 < n → ⊥
      none k l = omega arith

      by : (a : Bool) → nat_lt j (length (segments_of bs)) ≡ a → (b : Bool) → is_under_way g.before.0 (seg j) ≡ b
          → cond (a && b) 1 0 ≡ times j places → (j < length bs) × (is_under_way g.before.0 (seg j) ≡ true)
      by true e true f k = (subst (λ n. j < n) long (ltb-true j (length (segments_of bs)) e), f)
      by true e false f k = absurd (none k use_times)
      by false e b f k = absurd (none k use_times)

  a : Around i places
  a = around i places (times_in i places some)
    where
      under : is_under_way g.before.0 (seg i) ≡ true
      under = sym (kept i bound) ∙ middle_under_way (seg i) is_seg

      once : times i places ≡ 1
      once = st.exact i ∙ ap₂ (λ b c. cond {A = ℕ} (b && c) 1 0) (lt-ltb i (length (segments_of bs)) (subst (λ n. i < n) (sym long) bound)) under

      some : 0 < times i places
      some = omega (arith, once)

  in_front : (j : ℕ) → In j a.front → In j places
  in_front j h = subst (In j) (sym a.is) (in_left j a.front (i ∷ a.back) h)

  in_back : (j : ℕ) → In j a.back → In j places
  in_back j h = subst (In j) (sym a.is) (in_right j a.front (i ∷ a.back) (inr h))

  parted : map seg places ≡ map seg a.front ++ seg i ∷ map seg a.back
  parted = ap (map seg) a.is ∙ map-append seg a.front (i ∷ a.back)

  ordered : AreInOrder (map seg a.front ++ seg i ∷ map seg a.back)
  ordered = subst AreInOrder parted st.ordered

  before_it : (j : ℕ) → In j a.front → InFineOrder (seg j) (seg i)
  before_it j h = order_across (map seg a.front) (seg i ∷ map seg a.back) ordered (seg j) (seg i) (map_in seg j a.front h) (inl refl)

  behind_it : (j : ℕ) → In j a.back → InFineOrder (seg i) (seg j)
  behind_it j h =
      in_recursion (InFineOrder (seg i)) (map seg a.back) (seg j) (order_back (map seg a.front) (seg i ∷ map seg a.back) ordered).0 (map_in seg j a.back h)

  under_middle : (j : ℕ) → In j places → IsTrue (is_under_way m (twice (seg j)))
  under_middle j h = let k = in_list j h in kept j k.0 ∙ k.1

  counted_front : (j : ℕ) → In j a.front → counts_for m (seg j) ≡ false
  counted_front j h = counts_before (seg j) (seg i) is_seg (before_it j h) (under_middle j (in_front j h))

  counted_back : (j : ℕ) → In j a.back → counts_for m (seg j) ≡ true
  counted_back j h = counts_behind (seg i) (seg j) is_seg (behind_it j h) (under_middle j (in_back j h))

  counted_it : counts_for m (seg i) ≡ false
  counted_it = counts_itself (seg i)

  numbered : AreNumbered (borders_at bs (i ∷ a.back))
  numbered =
      numbered_back (borders_at bs a.front) (borders_at bs (i ∷ a.back))
      (subst AreNumbered (ap (borders_at bs) a.is ∙ map-append (border_at bs) a.front (i ∷ a.back)) st.numbered)

  pub right_sorted : IsStrictlySortedBy nat_cmp (border_at bs i).right
  right_sorted = numbered.0.sorted

  -- whether the border at a place bounds polygon n and counts for the middle
  abbrev test : ℕ → ℕ → Bool
  test n j = has_number n (border_at bs j).bounds && counts_for m (border_at bs j).segment

  as_seg : (n j : ℕ) → j < length bs → (b : Bool) → counts_for m (seg j) ≡ b → test n j ≡ (has_number n (border_at bs j).bounds && b)
  as_seg n j l b h =
      ap (λ c. has_number n (border_at bs j).bounds && c) (subst (λ s. counts_for m s ≡ b) (at_segment bs j l) h)

  and_none : (b : Bool) → (b && false) ≡ false
  and_none true = refl
  and_none false = refl

  and_all : (b : Bool) → (b && true) ≡ b
  and_all true = refl
  and_all false = refl

  odd_back : (n : ℕ) (js : List ℕ) → ((j : ℕ) → In j js → test n j ≡ has_number n (border_at bs j).bounds)
      → odd (test n) js ≡ is_odd_of n (borders_at bs js)
  odd_back n [] h = refl
  odd_back n (j ∷ js) h = ap₂ xor (h j (inl refl)) (odd_back n js (λ k l. h k (inr l)))

  pub right_odd : (n : ℕ) → has_number n (border_at bs i).right ≡ is_odd_at bs n (middle (seg i))
  right_odd n =
      numbered.0.odd n
      ∙ sym (by_place n m [] bs
      ∙ odd_listed bs (λ j. is_under_way g.before.0 (seg j)) (test n) places (λ j. st.exact j ∙ ap (λ k. cond {A = ℕ} (nat_lt j k && is_under_way g.before.0 (seg j)) 1 0) long)
      (λ j h f. let l = place_below j 0 bs h in
      let k : j < length bs = omega (arith, l) in
      as_seg n j k false (counts_elsewhere m (seg j) (kept j k ∙ f)) ∙ and_none (has_number n (border_at bs j).bounds))
      ∙ ap (odd (test n)) a.is
      ∙ odd-append (test n) a.front (i ∷ a.back)
      ∙ ap₂ (λ x y. xor x (xor y (odd (test n) a.back)))
      (odd-alike (test n) (λ j. false) a.front (λ j h. as_seg n j (in_list j (in_front j h)).0 false (counted_front j h) ∙ and_none (has_number n (border_at bs j).bounds)) ∙ odd-none a.front)
      (as_seg n i bound false counted_it ∙ and_none (has_number n (border_at bs i).bounds))
      ∙ odd_back n a.back (λ j h. as_seg n j (in_list j (in_back j h)).0 true (counted_back j h) ∙ and_all (has_number n (border_at bs j).bounds)))

-- the borders have what a sweep finds
pub swept : (bs : List Bordering) (vs : List VertexOf) → AreSegments (segments_of bs) → AreVertices (segments_of bs) vs
    → StandsAtEach bs is_under_way vs → AreSwept bs
swept bs vs segments vertices stands = record {
  odd = λ b h n. by b h.0 h.1 h.2 n;
  sorted = λ b h. subst (λ (c : Bordering). IsStrictlySortedBy nat_cmp c.right) (here b h.0 h.1 h.2) (right_sorted bs vs segments vertices stands h.0 h.1);
}
  where
    here : (b : Bordering) (k : ℕ) → k < length bs → get_or bs k b ≡ b → border_at bs k ≡ b
    here b k l e = get_or_default bs k _ b l ∙ e

    by : (b : Bordering) (k : ℕ) → k < length bs → get_or bs k b ≡ b → (n : ℕ) → has_number n b.right ≡ is_odd_at bs n (middle b.segment)
    by b k l e n =
        subst (λ (c : Bordering). has_number n c.right ≡ is_odd_at bs n (middle c.segment)) (here b k l e)
        (right_odd bs vs segments vertices stands k l n ∙ ap (λ s. is_odd_at bs n (middle s)) (at_segment bs k l))
