-- From vertex to vertex: the list of those under way at the one is that of those which await the next.
use Rattle.kit_words.proofs.Common.{◌≡◌, ℕ, zero, suc, ◌+◌, ◌<◌, ◌≤◌, ◌&&◌, Bool, true, false, not, refl, sym, ap, ◌∙◌}
use Rattle.kit_words.proofs.Common.{subst, arith, List, [], ◌∷◌, map, take, length, get_or, inl, inr, cond}
use Rattle.kit_words.proofs.Common.{nat_lt, ltb-true, false≢true, by_bool, take_more, get_or_default, ⊎_elim, get_or-take, length-take-le}
use Rattle.std.proofs.Common.{ltb-false}
use Rattle.grid_geometry.specs.Common.{Position, Segment, position_eq}
use Rattle.ring_machine.proofs.Common.{In, contains_in, in-append, in_contains}
use Rattle.layer_sides.specs.Common.{Bordering, bottom, is_under_way, level_lt, top}
use Rattle.layer_sides.specs.Under.{AreInOrder, AreNumbered, AreRising, AreVertices, BegunAt, ListsPlaces, Rewrites, Stands}
use Rattle.layer_sides.specs.Under.{StandsAtEach, VertexOf, awaits, segment_at, segments_of, times}
use Rattle.layer_sides.proofs.Levelled.{awaited_next, none_awaits}
use Rattle.layer_sides.proofs.Levels.{before_differs, not_back, not_itself, up_to_before}
use Rattle.layer_sides.proofs.Noting.{in_turn}
use Rattle.layer_sides.proofs.Numbering.{same_borders}
use Rattle.layer_sides.proofs.Passage.{listed}
use Rattle.layer_sides.proofs.Sweeping.{VertexAt, segment_there, vertex_at}

-- ---- tests that agree

pub other_test : (n : ℕ) (test other : ℕ → Bool) (places : List ℕ) → ((i : ℕ) → i < n → test i ≡ other i) → ListsPlaces n test places
    → ListsPlaces n other places
other_test n test other places h k i = k i ∙ by (nat_lt i n) refl
  where
    by : (l : Bool) → nat_lt i n ≡ l → ◌≡◌ {A = ℕ} (cond (l && test i) 1 0) (cond (l && other i) 1 0)
    by true e = ap (λ b. cond {A = ℕ} b 1 0) (h i (ltb-true i n e))
    by false e = refl

pub stands_by : (bs : List Bordering) (test other : Segment → Bool) (places : List ℕ)
    → ((i : ℕ) → i < length (segments_of bs) → test (segment_at (segments_of bs) i) ≡ other (segment_at (segments_of bs) i))
    → Stands bs test places → Stands bs other places
stands_by bs test other places h k = record {
  exact = other_test (length (segments_of bs)) (λ i. test (segment_at (segments_of bs) i)) (λ i. other (segment_at (segments_of bs) i)) places h k.exact;
  ordered = k.ordered;
  numbered = k.numbered;
}

-- ---- a vertex and the others

module _ (vs : List VertexOf) (rising : AreRising vs) where
  -- a vertex, by its place
  pub record PlaceOf (p : Position) : Type 0 where
    pub place : ℕ
    pub within : place < length vs
    pub at : (d : VertexOf) → (get_or vs place d).0 ≡ p

  pub place_of : (p : Position) → VertexAt vs p → PlaceOf p
  place_of p v =
      let c = in_contains vs v.vertex v.among in
      record { place = c.0; within = c.1; at = λ d. ap (λ (w : VertexOf). w.0) (get_or_default vs c.0 d v.vertex c.1 ∙ c.2) ∙ v.at }

  -- no vertex is between one and the next
  pub none_between : (k : ℕ) (d : VertexOf) → k + 1 < length vs → (p : Position) → VertexAt vs p
      → level_lt (get_or vs k d).0 p ≡ true → level_lt p (get_or vs (k + 1) d).0 ≡ false
  none_between k d l p v h = by_bool (nat_lt k w.place) later earlier
    where
      unlike : {b : Bool} → b ≡ true → b ≡ false → ⊥
      unlike p q = false≢true (sym q ∙ p)

      w : PlaceOf p
      w = place_of p v

      later : nat_lt k w.place ≡ true → level_lt p (get_or vs (k + 1) d).0 ≡ false
      later e =
          let m : k < w.place = ltb-true k w.place e in
          by_bool (nat_lt (k + 1) w.place)
          (λ f. not_back (get_or vs (k + 1) d).0 p
          (subst (λ q. level_lt (get_or vs (k + 1) d).0 q ≡ true) (w.at d) (in_turn vs rising (k + 1) w.place d (ltb-true (k + 1) w.place f) w.within)))
          (λ f. let o : w.place ≤ k + 1 = ltb-false (k + 1) w.place f in
          let same : w.place ≡ k + 1 = omega arith in
          subst (λ q. level_lt q (get_or vs (k + 1) d).0 ≡ false) (ap (λ m. (get_or vs m d).0) (sym same) ∙ w.at d) (not_itself (get_or vs (k + 1) d).0))

      earlier : nat_lt k w.place ≡ false → level_lt p (get_or vs (k + 1) d).0 ≡ false
      earlier e = absurd (unlike h before)
        where
          m : w.place ≤ k
          m = ltb-false k w.place e

          before : level_lt (get_or vs k d).0 p ≡ false
          before =
              by_bool (nat_lt w.place k)
              (λ f. not_back p (get_or vs k d).0 (subst (λ q. level_lt q (get_or vs k d).0 ≡ true) (w.at d)
              (in_turn vs rising w.place k d (ltb-true w.place k f) (omega (arith, l)))))
              (λ f. let o : k ≤ w.place = ltb-false w.place k f in
              let same : w.place ≡ k = omega (arith, m) in
              subst (λ q. level_lt (get_or vs k d).0 q ≡ false) (ap (λ m. (get_or vs m d).0) (sym same) ∙ w.at d) (not_itself (get_or vs k d).0))

  -- none is before the first
  pub first_of_all : (d : VertexOf) (p : Position) → VertexAt vs p → level_lt p (get_or vs 0 d).0 ≡ false
  first_of_all d p v =
      by_bool (nat_lt 0 w.place)
      (λ e. not_back (get_or vs 0 d).0 p (subst (λ q. level_lt (get_or vs 0 d).0 q ≡ true) (w.at d) (in_turn vs rising 0 w.place d (ltb-true 0 w.place e) w.within)))
      (λ e. let o : w.place ≤ 0 = ltb-false 0 w.place e in
      let same : w.place ≡ 0 = omega arith in
      subst (λ q. level_lt q (get_or vs 0 d).0 ≡ false) (ap (λ m. (get_or vs m d).0) (sym same) ∙ w.at d) (not_itself (get_or vs 0 d).0))
    where
      w : PlaceOf p
      w = place_of p v

-- ---- the list before a vertex

-- the list after so many vertices: none before the first, and else those under way at the last of them
pub record StandsAfter (bs : List Bordering) (vs : List VertexOf) (k : ℕ) (places : List ℕ) : Type 0 where
  pub first : k ≡ 0 → places ≡ []
  pub later : (j : ℕ) (d : VertexOf) → k ≡ j + 1 → Stands bs (is_under_way (get_or vs j d).0) places

pub awaited : (bs : List Bordering) (vs : List VertexOf) (k : ℕ) (d : VertexOf) (places : List ℕ) → AreVertices (segments_of bs) vs
    → k < length vs → StandsAfter bs vs k places → Stands bs (awaits (get_or vs k d).0) places
awaited bs vs zero d places v l h =
    subst (Stands bs (awaits (get_or vs 0 d).0)) (sym (h.first refl)) (record {
      exact = λ i. none i;
      ordered = tt;
      numbered = tt;
    })
  where
    none : (i : ℕ) → ◌≡◌ {A = ℕ} 0 (cond (nat_lt i (length (segments_of bs)) && awaits (get_or vs 0 d).0 (segment_at (segments_of bs) i)) 1 0)
    none i = by (nat_lt i (length (segments_of bs))) refl
      where
        by : (b : Bool) → nat_lt i (length (segments_of bs)) ≡ b
            → ◌≡◌ {A = ℕ} 0 (cond (b && awaits (get_or vs 0 d).0 (segment_at (segments_of bs) i)) 1 0)
        by true e =
            let s = segment_at (segments_of bs) i in
            sym (ap (λ b. cond {A = ℕ} b 1 0) (none_awaits (get_or vs 0 d).0 s
            (first_of_all vs v.rising d (bottom s) (vertex_at vs (bottom s) (v.bottoms s (segment_there (segments_of bs) i (ltb-true i (length (segments_of bs)) e)))))))
        by false e = refl
awaited bs vs (suc j) d places v l h =
    stands_by bs (is_under_way (get_or vs j d).0) (awaits (get_or vs (suc j) d).0) places same (h.later j d one_more)
  where
    one_more : suc j ≡ j + 1
    one_more = omega arith

    within : j + 1 < length vs
    within = omega (arith, l)

    next : (get_or vs (j + 1) d).0 ≡ (get_or vs (suc j) d).0
    next = ap (λ m. (get_or vs m d).0) (sym one_more)

    between : (p : Position) → VertexAt vs p → level_lt (get_or vs j d).0 p ≡ true → level_lt p (get_or vs (suc j) d).0 ≡ false
    between p w k = subst (λ q. level_lt p q ≡ false) next (none_between vs v.rising j d within p w k)

    same : (i : ℕ) → i < length (segments_of bs)
        → is_under_way (get_or vs j d).0 (segment_at (segments_of bs) i) ≡ awaits (get_or vs (suc j) d).0 (segment_at (segments_of bs) i)
    same i m =
        let s = segment_at (segments_of bs) i in
        let c = segment_there (segments_of bs) i m in
        awaited_next (get_or vs j d).0 (get_or vs (suc j) d).0 s
        (in_turn vs v.rising j (suc j) d (omega arith) l)
        (between (bottom s) (vertex_at vs (bottom s) (v.bottoms s c)))
        (between (top s) (vertex_at vs (top s) (v.tops s c)))

-- ---- what was written later changes nothing

pub stands_kept : (bs cs : List Bordering) (w v : VertexOf) (places : List ℕ) → level_lt w.0 v.0 ≡ true
    → BegunAt (segments_of bs) (length (segments_of bs)) v → Rewrites v.1 bs cs → Stands bs (is_under_way w.0) places → Stands cs (is_under_way w.0) places
stands_kept bs cs w v places l b r h = record {
  exact = subst (λ ss. ListsPlaces (length ss) (λ i. is_under_way w.0 (segment_at ss i)) places) (sym r.segments) h.exact;
  ordered = subst (λ ss. AreInOrder (map (segment_at ss) places)) (sym r.segments) h.ordered;
  numbered = subst AreNumbered (sym (same_borders bs cs places (λ i j. r.others i (not_begun i j)))) h.numbered;
}
  where
    not_begun : (i : ℕ) → In i places → times i v.1 ≡ 0
    not_begun i j = b i ∙ by (nat_lt i (length (segments_of bs)))
      where
        s : Segment
        s = segment_at (segments_of bs) i

        way : is_under_way w.0 (segment_at (segments_of bs) i) ≡ true
        way = (listed (length (segments_of bs)) (λ i. is_under_way w.0 (segment_at (segments_of bs) i)) places h.exact i j).passes

        begun : level_lt w.0 (bottom (segment_at (segments_of bs) i)) ≡ false
        begun = first_false (level_lt w.0 (bottom (segment_at (segments_of bs) i))) _ way
          where
            first_false : (a c : Bool) → (not a && c) ≡ true → a ≡ false
            first_false true c k = absurd (false≢true k)
            first_false false c k = refl

        differs : position_eq (bottom (segment_at (segments_of bs) i)) v.0 ≡ false
        differs =
            before_differs (bottom (segment_at (segments_of bs) i)) v.0
            (up_to_before (bottom (segment_at (segments_of bs) i)) w.0 v.0 begun l)

        by : (a : Bool) → ◌≡◌ {A = ℕ} (cond (a && position_eq (bottom (segment_at (segments_of bs) i)) v.0) 1 0) 0
        by true = ap (λ c. cond {A = ℕ} c 1 0) differs
        by false = refl

-- ---- one vertex more

module _ (bs cs : List Bordering) (vs : List VertexOf) (k : ℕ) (d : VertexOf) (places : List ℕ)
    (vertices : AreVertices (segments_of bs) vs) (within : k < length vs)
    (rewrites : Rewrites (get_or vs k d).1 bs cs) (stands : Stands cs (is_under_way (get_or vs k d).0) places) where
  pub stands_after_more : StandsAfter cs vs (k + 1) places
  stands_after_more = record {
    first = λ e. absurd (omega arith);
    later = λ j e f. by j e f;
  }
    where
      by : (j : ℕ) (e : VertexOf) → k + 1 ≡ j + 1 → Stands cs (is_under_way (get_or vs j e).0) places
      by j e f =
          let same : k ≡ j = omega arith in
          subst (λ (w : VertexOf). Stands cs (is_under_way w.0) places) (get_or_default vs k d e within ∙ ap (λ m. get_or vs m e) same) stands

  pub each_more : StandsAtEach bs is_under_way (take k vs) → StandsAtEach cs is_under_way (take (k + 1) vs)
  each_more h w c =
      ⊎_elim earlier now (in-append w (take k vs) (get_or vs k d ∷ []) (subst (In w) (take_more vs k d within) (contains_in (take (k + 1) vs) w c)))
    where
      earlier : In w (take k vs) → (ps : List ℕ) × Stands cs (is_under_way w.0) ps
      earlier i =
          let at = in_contains (take k vs) w i in
          let s = h w at in
          (s.0, stands_kept bs cs w (get_or vs k d) s.0 (before at.0 at.1 at.2) (vertices.begun (get_or vs k d) (k, within, get_or_default vs k (get_or vs k d) d within)) rewrites s.1)
        where
          below_taken : (j : ℕ) → j < length (take k vs) → j < k
          below_taken j l = let e : length (take k vs) ≡ k = length-take-le k vs (omega (arith, within)) in omega (arith, e, l)

          before : (j : ℕ) → j < length (take k vs) → get_or (take k vs) j w ≡ w → level_lt w.0 (get_or vs k d).0 ≡ true
          before j l e =
              let m : j < k = below_taken j l in
              subst (λ (z : VertexOf). level_lt z.0 (get_or vs k d).0 ≡ true)
              (get_or_default vs j d w (omega (arith, m, within)) ∙ sym (get_or-take k vs j w m) ∙ e)
              (in_turn vs vertices.rising j k d m within)

      now : In w (get_or vs k d ∷ []) → (ps : List ℕ) × Stands cs (is_under_way w.0) ps
      now (inl e) = (places, subst (λ (z : VertexOf). Stands cs (is_under_way z.0) places) e stands)
      now (inr e) = absurd e
