-- An index that holds the segments of the rings, and of some edges more.
use Rattle.kit_words.proofs.Common.{◌≡◌, ◌+◌, Bool, true, false, refl, sym, ap, ◌∙◌, subst, cond, List, [], ◌∷◌, ◌++◌}
use Rattle.kit_words.proofs.Common.{◌||◌, ◌&&◌, ◌⊎◌, inl, inr, not, Contains, false≢true, map-append, or_right}
use Rattle.kit_words.proofs.Common.{Contains-append_left, Contains-push, Contains-push_cases, and_parts, or_cases}
use Rattle.kit_words.proofs.Common.{not-true}
use Rattle.std.specs.FinSet as set
use Rattle.grid_geometry.specs.Common.{Segment, segment}
use Rattle.vertex_index.specs.Common.{Placement, place}
use Rattle.segment_index.specs.Common.{SegmentSet, segment_is}
use Rattle.segment_index.proofs.Common.{segment_total, same_segment, same_sets, is-itself}
use Rattle.arc_tables.specs.Common.{Edge, Rings}
use Rattle.ring_store.specs.Common.{IsSide, sides, HoldsWith}

-- ---- how many segments are held

pub len_more : (h h' : SegmentSet) (s : Segment) → set.contains h s ≡ false → h' ≡ set.insert h s
    → set.len h' ≡ set.len h + 1
len_more h h' s new put =
    ap set.len put ∙ set.len-insert segment_total h s
    ∙ ap (λ b. cond b (set.len h) (set.len h + 1)) new

pub len_less : (h h' : SegmentSet) (s : Segment) → set.contains h s ≡ true → h' ≡ set.remove h s
    → set.len h ≡ set.len h' + 1
len_less h h' s there gone =
    len_more h' h s
    (ap (λ z. set.contains z s) gone ∙ set.contains-remove segment_total h s s ∙ ap (λ b. not b && set.contains h s) (is-itself s))
    (same_sets h (set.insert h' s) (λ t. back t (segment_is t s) refl))
  where
    back : (t : Segment) (b : Bool) → segment_is t s ≡ b → set.contains h t ≡ set.contains (set.insert h' s) t
    back t true e =
        ap (set.contains h) (same_segment t s e) ∙ there
        ∙ sym (set.contains-insert segment_total h' s t ∙ ap (λ b. b || set.contains h' t) e)
    back t false e =
        sym (set.contains-insert segment_total h' s t ∙ ap (λ b. b || set.contains h' t) e
        ∙ ap (λ z. set.contains z t) gone ∙ set.contains-remove segment_total h s t ∙ ap (λ b. not b && set.contains h t) e)

-- ---- one edge more, or less

module _ (places : Placement) (rings : Rings) (held : SegmentSet) (done : List Edge) (e : Edge) where
  side : Segment
  side = segment (place places e.0) (place places e.1)

  all_sides : sides places (done ++ e ∷ []) ≡ sides places done ++ side ∷ []
  unfolding side
  all_sides = map-append (λ (x : Edge). segment (place places x.0) (place places x.1)) done (e ∷ [])

  parted : (t : Segment) → Contains (sides places (done ++ e ∷ [])) t → Contains (sides places done) t ⊎ (side ≡ t)
  parted t c = Contains-push_cases (sides places done) side t (subst (λ z. Contains z t) all_sides c)

  before : (t : Segment) → Contains (sides places done) t → Contains (sides places (done ++ e ∷ [])) t
  before t c = subst (λ z. Contains z t) (sym all_sides) (Contains-append_left (sides places done) (side ∷ []) t c)

  last : (t : Segment) → side ≡ t → Contains (sides places (done ++ e ∷ [])) t
  last t s = subst (Contains (sides places (done ++ e ∷ []))) s (subst (λ z. Contains z side) (sym all_sides) (Contains-push (sides places done) side))

  -- a segment that a ring has already
  pub holds_same : IsSide places rings (segment (place places e.0) (place places e.1))
      → HoldsWith places rings held done → HoldsWith places rings held (done ++ e ∷ [])
  unfolding side
  holds_same s h t = (
    λ i. elim ((h t).0 i) [ inl a ↦ inl a | inr c ↦ inr (before t c) ],
    λ o. elim o [
      | inl a ↦ (h t).1 (inl a)
      | inr c ↦ elim (parted t c) [ inl d ↦ (h t).1 (inr d) | inr is ↦ (h t).1 (inl (subst (IsSide places rings) is s)) ]
    ],
  )

  pub holds_back : IsSide places rings (segment (place places e.0) (place places e.1))
      → HoldsWith places rings held (done ++ e ∷ []) → HoldsWith places rings held done
  unfolding side
  holds_back s h t = (
    λ i. elim ((h t).0 i) [
      | inl a ↦ inl a
      | inr c ↦ elim (parted t c) [ inl d ↦ inr d | inr is ↦ inl (subst (IsSide places rings) is s) ]
    ],
    λ o. elim o [ inl a ↦ (h t).1 (inl a) | inr c ↦ (h t).1 (inr (before t c)) ],
  )

  module _ (alone : IsSide places rings (segment (place places e.0) (place places e.1)) → ⊥)
      (once : Contains (sides places done) (segment (place places e.0) (place places e.1)) → ⊥) where
    -- one that no ring and no edge before has is not held
    pub holds_not : HoldsWith places rings held done
        → set.contains held (segment (place places e.0) (place places e.1)) ≡ false
    unfolding side
    holds_not h = by (set.contains held side) refl
      where
        by : (b : Bool) → set.contains held side ≡ b → set.contains held side ≡ false
        by false f = f
        by true f = absurd (elim ((h side).0 f) [ inl a ↦ alone a | inr c ↦ once c ])

    pub holds_more : (held' : SegmentSet) → held' ≡ set.insert held (segment (place places e.0) (place places e.1))
        → HoldsWith places rings held done → HoldsWith places rings held' (done ++ e ∷ [])
    unfolding side
    holds_more held' put h t = (
      λ i. elim (or_cases (segment_is t side) (set.contains held t) (sym (now t) ∙ i)) [
        | inl is ↦ inr (last t (sym (same_segment t side is)))
        | inr there ↦ elim ((h t).0 there) [ inl a ↦ inl a | inr c ↦ inr (before t c) ]
      ],
      λ o. now t ∙ elim o [
        | inl a ↦ or_right (segment_is t side) (set.contains held t) ((h t).1 (inl a))
        | inr c ↦ elim (parted t c) [
          | inl d ↦ or_right (segment_is t side) (set.contains held t) ((h t).1 (inr d))
          | inr is ↦ ap (λ b. b || set.contains held t) (ap (λ z. segment_is z side) (sym is) ∙ is-itself side)
        ]
      ],
    )
      where
        now : (t : Segment) → set.contains held' t ≡ (segment_is t side || set.contains held t)
        now t = ap (λ z. set.contains z t) put ∙ set.contains-insert segment_total held side t

    pub holds_less : (held' : SegmentSet) → held' ≡ set.remove held (segment (place places e.0) (place places e.1))
        → HoldsWith places rings held (done ++ e ∷ []) → HoldsWith places rings held' done
    unfolding side
    holds_less held' gone h t = (
      λ i.
          let k = and_parts (not (segment_is t side)) (set.contains held t) (sym (now t) ∙ i) in
          elim ((h t).0 k.1) [
            | inl a ↦ inl a
            | inr c ↦ elim (parted t c) [
              | inl d ↦ inr d
              | inr is ↦ absurd (false≢true (sym (not-true (segment_is t side) k.0) ∙ ap (λ z. segment_is z side) (sym is) ∙ is-itself side))
            ]
          ],
      λ o. now t ∙ elim o [
        | inl a ↦ stays t (λ is. alone (subst (IsSide places rings) is a)) ((h t).1 (inl a))
        | inr c ↦ stays t (λ is. once (subst (Contains (sides places done)) is c)) ((h t).1 (inr (before t c)))
      ],
    )
      where
        now : (t : Segment) → set.contains held' t ≡ (not (segment_is t side) && set.contains held t)
        now t = ap (λ z. set.contains z t) gone ∙ set.contains-remove segment_total held side t

        stays : (t : Segment) → (t ≡ side → ⊥) → set.contains held t ≡ true
            → (not (segment_is t side) && set.contains held t) ≡ true
        stays t f i = by (segment_is t side) refl
          where
            by : (b : Bool) → segment_is t side ≡ b → (not b && set.contains held t) ≡ true
            by false n = i
            by true n = absurd (f (same_segment t side n))

  -- that of the last edge is held
  pub holds_last : HoldsWith places rings held (done ++ e ∷ [])
      → set.contains held (segment (place places e.0) (place places e.1)) ≡ true
  unfolding side
  holds_last h = (h side).1 (inr (last side refl))
