-- Vertices put back one after the other: what becomes of the vertices and the segments of a document.
use Rattle.kit_words.proofs.Common.{◌≡◌, ◌≤◌, ◌+◌, Bool, true, false, refl, sym, ap, ap₂, ◌∙◌, cond, List, [], ◌∷◌}
use Rattle.kit_words.proofs.Common.{◌++◌, map, ◌⊎◌, inl, inr, ◌&&◌, ◌||◌, arith, not, reverse, list_any, fold}
use Rattle.kit_words.proofs.Common.{false≢true, map-append, reverse-append, and_parts, or_cases, or_right}
use Rattle.kit_words.proofs.Common.{false_from_ne_true}
use Rattle.grid_geometry.specs.Common.{Position, Segment, segment, segment_eq, is_end}
use Rattle.grid_geometry.proofs.Common.{segment-comm}
use Rattle.ring_machine.specs.Common.{Document, is_vertex, is_segment}
use Rattle.ring_machine.proofs.Common.{In, any_in, in_any, segment_ordered, segment_eq-true}
use Rattle.edit_records.specs.Common.{put_back, IsMap, IsRemoved, AreRemoved}
use Rattle.segment_index.specs.Common.{AreSingle, segment_is, has, times_in}
use Rattle.segment_index.proofs.Common.{same_segment, times-none}
use Rattle.ring_store.proofs.Common.{segment_is-eq, has-eq}
use Rattle.feature_exchange.proofs.Common.{two_ends, end_of_two}
use Rattle.ring_store.specs.Common.{comings, goings}
use Rattle.ring_store.specs.declared.removal.Removal.{Removal}
use Rattle.arc_store.specs.Common.{removal_seen}
use Rattle.arc_store.proofs.Indexed.{end_vertex, vertex_end}
use Rattle.arc_store.proofs.Insertions.{Comes, border_ends, not_segment, over_segments, segments_come, segments_ins}

-- the document with the vertex, and the one with all of these
abbrev pub with_one : Document → Removal → Document
with_one d r = put_back d (removal_seen r)

abbrev pub with_all : Document → List Removal → Document
with_all d rs = fold put_back d (map removal_seen rs)

abbrev pub AreOut : Document → List Removal → Type 0
AreOut d rs = AreRemoved d (map removal_seen rs)

-- in the order in which they went
pub seen_reversed : (rs : List Removal) → map removal_seen (reverse rs) ≡ reverse (map removal_seen rs)
seen_reversed [] = refl
seen_reversed (r ∷ rs) =
    ap (map removal_seen) (reverse-append (r ∷ []) rs) ∙ map-append removal_seen (reverse rs) (r ∷ [])
    ∙ ap (λ z. z ++ removal_seen r ∷ []) (seen_reversed rs)
    ∙ sym (reverse-append (removal_seen r ∷ []) (map removal_seen rs))

-- ---- one vertex

module _ (d : Document) (r : Removal) (h : IsRemoved d (removal_seen r)) where
  -- its neighbours are vertices
  pub border_there : (is_vertex d r.a ≡ true) × (is_vertex d r.b ≡ true)
  border_there = border_ends d r.a r.b h.joined

  come : Comes d (segment r.a r.at) (segment r.at r.b)
  come = segments_come d r.a r.b r.at h.apart h.joined h.free

  -- the segments after it: those to the vertex come, and that of its neighbours goes
  segments_after : (t : Segment)
      → is_segment (with_one d r) t
      ≡ ((is_segment d t && not (segment_eq t (segment r.a r.b))) || list_any (segment_eq t) (over_segments r.a r.b r.at))
  segments_after = segments_ins d r.a r.b r.at h.joined

  -- in the words of an index
  segments_had : (t : Segment)
      → is_segment (with_one d r) t
      ≡ ((is_segment d t && not (segment_is t (segment r.a r.b))) || has (segment r.a r.at ∷ segment r.b r.at ∷ []) t)
  segments_had t =
      segments_after t
      ∙ ap₂ (λ y z. (is_segment d t && not y) || z) (sym (segment_is-eq t (segment r.a r.b)))
      (sym (has-eq (over_segments r.a r.b r.at) t) ∙ ap (λ z. has (segment r.a r.at ∷ z ∷ []) t) (segment-comm r.at r.b))

  comes_in : (t : Segment) → In t (over_segments r.a r.b r.at) → is_segment (with_one d r) t ≡ true
  comes_in t i =
      segments_after t
      ∙ or_right (is_segment d t && not (segment_eq t (segment r.a r.b))) (list_any (segment_eq t) (over_segments r.a r.b r.at))
      (in_any (segment_eq t) t (over_segments r.a r.b r.at) i (segment_ordered.eq-refl t))

  -- the vertices are those from before, and the new one
  pub vertex_stays : (p : Position) → is_vertex d p ≡ true → is_vertex (with_one d r) p ≡ true
  vertex_stays p v = let u = vertex_end d p v in by u.0 u.1 u.2 (segment_eq u.0 (segment r.a r.b)) refl
    where
      by : (t : Segment) → is_segment d t ≡ true → is_end p t ≡ true → (e : Bool)
          → segment_eq t (segment r.a r.b) ≡ e → is_vertex (with_one d r) p ≡ true
      by t s i true e = elim (end_of_two p r.a r.b (ap (is_end p) (sym (segment_eq-true t (segment r.a r.b) e)) ∙ i)) [
        | inl f ↦ end_vertex (with_one d r) p (segment r.a r.at) (comes_in (segment r.a r.at) (inl refl)) (ap (λ z. is_end z (segment r.a r.at)) f ∙ (two_ends r.a r.at).0)
        | inr f ↦ end_vertex (with_one d r) p (segment r.at r.b) (comes_in (segment r.at r.b) (inr (inl refl))) (ap (λ z. is_end z (segment r.at r.b)) f ∙ (two_ends r.at r.b).1)
      ]
      by t s i false e =
          end_vertex (with_one d r) p t (segments_after t ∙ ap₂ (λ y z. (y && not z) || list_any (segment_eq t) (over_segments r.a r.b r.at)) s e) i

  pub vertex_new : is_vertex (with_one d r) r.at ≡ true
  vertex_new =
      end_vertex (with_one d r) r.at (segment r.a r.at) (comes_in (segment r.a r.at) (inl refl)) (two_ends r.a r.at).1

  pub vertex_came : (p : Position) → is_vertex (with_one d r) p ≡ true → (is_vertex d p ≡ true) ⊎ (p ≡ r.at)
  vertex_came p v =
      let u = vertex_end (with_one d r) p v in
      elim (or_cases (is_segment d u.0 && not (segment_eq u.0 (segment r.a r.b))) (list_any (segment_eq u.0) (over_segments r.a r.b r.at)) (sym (segments_after u.0) ∙ u.1)) [
        | inl s ↦ inl (end_vertex d p u.0 (and_parts (is_segment d u.0) (not (segment_eq u.0 (segment r.a r.b))) s).0 u.2)
        | inr s ↦ let w = any_in (segment_eq u.0) (over_segments r.a r.b r.at) s in
            at w.0 w.1 (ap (is_end p) (sym (segment_eq-true u.0 w.0 w.2)) ∙ u.2)
      ]
    where
      at : (t : Segment) → In t (over_segments r.a r.b r.at) → is_end p t ≡ true
          → (is_vertex d p ≡ true) ⊎ (p ≡ r.at)
      at t (inl e) i = elim (end_of_two p r.a r.at (ap (is_end p) e ∙ i)) [
        | inl f ↦ inl (ap (is_vertex d) f ∙ border_there.0)
        | inr f ↦ inr f
      ]
      at t (inr (inl e)) i = elim (end_of_two p r.at r.b (ap (is_end p) e ∙ i)) [
        | inl f ↦ inr f
        | inr f ↦ inl (ap (is_vertex d) f ∙ border_there.1)
      ]
      at t (inr (inr e)) i = absurd e

  -- what is no vertex afterwards was none
  was_free : (p : Position) → is_vertex (with_one d r) p ≡ false → is_vertex d p ≡ false
  was_free p f = false_from_ne_true (is_vertex d p) (λ v. false≢true (sym f ∙ vertex_stays p v))

  -- its neighbours are joined no more
  unjoined : is_segment (with_one d r) (segment r.a r.b) ≡ false
  unjoined =
      segments_after (segment r.a r.b)
      ∙ ap₂ (λ y z. (y && not (segment_eq (segment r.a r.b) (segment r.a r.b))) || z) h.joined
      (false_from_ne_true (list_any (segment_eq (segment r.a r.b)) (over_segments r.a r.b r.at)) (λ i.
      let u = any_in (segment_eq (segment r.a r.b)) (over_segments r.a r.b r.at) i in
      at u.0 u.1 (segment_eq-true (segment r.a r.b) u.0 u.2)))
      ∙ ap (λ z. not z || false) (segment_ordered.eq-refl (segment r.a r.b))
    where
      new : (t : Segment) → is_segment d t ≡ false → segment r.a r.b ≡ t → ⊥
      new t n e = false≢true (sym n ∙ ap (is_segment d) (sym e) ∙ h.joined)

      at : (t : Segment) → In t (over_segments r.a r.b r.at) → segment r.a r.b ≡ t → ⊥
      at t (inl e) f = new (segment r.a r.at) come.first_new (f ∙ sym e)
      at t (inr (inl e)) f = new (segment r.at r.b) come.second_new (f ∙ sym e)
      at t (inr (inr e)) f = absurd e

  -- those to the vertex are two, and are segments afterwards
  spokes_differ : segment r.a r.at ≡ segment r.b r.at → ⊥
  spokes_differ e =
      false≢true (sym come.two ∙ ap (λ z. segment_eq z (segment r.at r.b)) (e ∙ segment-comm r.b r.at) ∙ segment_ordered.eq-refl (segment r.at r.b))

  first_there : is_segment (with_one d r) (segment r.a r.at) ≡ true
  first_there = comes_in (segment r.a r.at) (inl refl)

  second_there : is_segment (with_one d r) (segment r.b r.at) ≡ true
  second_there = ap (is_segment (with_one d r)) (segment-comm r.b r.at) ∙ comes_in (segment r.at r.b) (inr (inl refl))

-- ---- what comes

-- a segment that comes has an end that was no vertex
coming_end : (d : Document) (rs : List Removal) → AreOut d rs → (t : Segment)
    → has (comings rs) t ≡ true → (q : Position) × (is_vertex d q ≡ false) × (is_end q t ≡ true)
coming_end d [] h t i = absurd (false≢true i)
coming_end d (r ∷ rs) h t i =
    elim (or_cases (segment_is t (segment r.a r.at)) (segment_is t (segment r.b r.at) || has (comings rs) t) i) [
      | inl e ↦ (r.at, h.0.free, ap (is_end r.at) (same_segment t (segment r.a r.at) e) ∙ (two_ends r.a r.at).1)
      | inr j ↦ elim (or_cases (segment_is t (segment r.b r.at)) (has (comings rs) t) j) [
        | inl e ↦ (r.at, h.0.free, ap (is_end r.at) (same_segment t (segment r.b r.at) e) ∙ (two_ends r.b r.at).1)
        | inr k ↦ let u = coming_end (with_one d r) rs h.1 t k in (u.0, was_free d r h.0 u.0 u.1, u.2)
      ]
    ]

-- so it is new
pub comings_new : (d : Document) (rs : List Removal) → AreOut d rs → (t : Segment)
    → has (comings rs) t ≡ true → is_segment d t ≡ false
comings_new d rs h t i = let u = coming_end d rs h t i in not_segment d u.0 t u.1 u.2

segment_stays_out : (d : Document) (rs : List Removal) → AreOut d rs → (t : Segment)
    → is_segment d t ≡ true → has (comings rs) t ≡ false
segment_stays_out d rs h t s =
    false_from_ne_true (has (comings rs) t) (λ i. false≢true (sym (comings_new d rs h t i) ∙ s))

-- none comes between two that are vertices
none_between : (d : Document) (rs : List Removal) → AreOut d rs → (a b : Position)
    → is_vertex d a ≡ true → is_vertex d b ≡ true → has (comings rs) (segment a b) ≡ false
none_between d rs h a b v w =
    false_from_ne_true (has (comings rs) (segment a b)) (λ i.
    let u = coming_end d rs h (segment a b) i in
    elim (end_of_two u.0 a b u.2) [
      | inl e ↦ false≢true (sym u.1 ∙ ap (is_vertex d) e ∙ v)
      | inr e ↦ false≢true (sym u.1 ∙ ap (is_vertex d) e ∙ w)
    ])

-- and each comes once
pub comings_single : (d : Document) (rs : List Removal) → AreOut d rs → AreSingle (comings rs)
comings_single d [] h t = omega arith
comings_single d (r ∷ rs) h t =
    by (segment_is t (segment r.a r.at)) refl (segment_is t (segment r.b r.at)) refl (comings_single (with_one d r) rs h.1 t)
  where
    once : (s : Segment) → segment_is t s ≡ true → is_segment (with_one d r) s ≡ true
        → times_in (comings rs) t ≡ 0
    once s e i =
        times-none (comings rs) t (ap (has (comings rs)) (same_segment t s e) ∙ segment_stays_out (with_one d r) rs h.1 s i)

    by : (u : Bool) → segment_is t (segment r.a r.at) ≡ u → (v : Bool) → segment_is t (segment r.b r.at) ≡ v
        → times_in (comings rs) t ≤ 1 → cond u 1 0 + (cond v 1 0 + times_in (comings rs) t) ≤ 1
    by true e true f l = absurd (spokes_differ d r h.0 (sym (same_segment t (segment r.a r.at) e) ∙ same_segment t (segment r.b r.at) f))
    by true e false f l = omega (arith, once (segment r.a r.at) e (first_there d r h.0))
    by false e true f l = omega (arith, once (segment r.b r.at) f (second_there d r h.0))
    by false e false f l = omega (arith, l)

-- ---- what goes

-- a segment that goes was there, or came
pub goings_there : (d : Document) (rs : List Removal) → AreOut d rs → (t : Segment)
    → has (goings rs) t ≡ true → (is_segment d t || has (comings rs) t) ≡ true
goings_there d [] h t i = absurd (false≢true i)
goings_there d (r ∷ rs) h t i =
    elim (or_cases (segment_is t (segment r.a r.b)) (has (goings rs) t) i) [
      | inl e ↦ ap (λ b. b || has (comings (r ∷ rs)) t) (ap (is_segment d) (same_segment t (segment r.a r.b) e) ∙ h.0.joined)
      | inr j ↦ by (is_segment d t) (segment_is t (segment r.a r.b)) (segment_is t (segment r.a r.at)) (segment_is t (segment r.b r.at)) (has (comings rs) t)
          (ap (λ b. b || has (comings rs) t) (sym (segments_had d r h.0 t)) ∙ goings_there (with_one d r) rs h.1 t j)
    ]
  where
    by : (was goes first second later : Bool)
        → (((was && not goes) || (first || (second || false))) || later) ≡ true
        → (was || (first || (second || later))) ≡ true
    by was goes first second later e = grind arith

-- and each goes once
pub goings_single : (d : Document) (rs : List Removal) → AreOut d rs → AreSingle (goings rs)
goings_single d [] h t = omega arith
goings_single d (r ∷ rs) h t = by (segment_is t (segment r.a r.b)) refl (goings_single (with_one d r) rs h.1 t)
  where
    gone : (is_segment (with_one d r) (segment r.a r.b) || has (comings rs) (segment r.a r.b)) ≡ false
    gone =
        ap₂ (λ y z. y || z) (unjoined d r h.0)
        (none_between (with_one d r) rs h.1 r.a r.b (vertex_stays d r h.0 r.a (border_there d r h.0).0) (vertex_stays d r h.0 r.b (border_there d r h.0).1))

    once : has (goings rs) (segment r.a r.b) ≡ false
    once =
        false_from_ne_true (has (goings rs) (segment r.a r.b)) (λ i. false≢true (sym gone ∙ goings_there (with_one d r) rs h.1 (segment r.a r.b) i))

    by : (u : Bool) → segment_is t (segment r.a r.b) ≡ u → times_in (goings rs) t ≤ 1
        → cond u 1 0 + times_in (goings rs) t ≤ 1
    by true e l = omega (arith, times-none (goings rs) t (ap (has (goings rs)) (same_segment t (segment r.a r.b) e) ∙ once))
    by false e l = omega (arith, l)

-- ---- the document with all

pub segments_back : (d : Document) (rs : List Removal) → AreOut d rs → (t : Segment)
    → is_segment (with_all d rs) t
    ≡ ((is_segment d t || has (comings rs) t) && not (has (goings rs) t))
segments_back d [] h t = grind arith
segments_back d (r ∷ rs) h t =
    segments_back (with_one d r) rs h.1 t
    ∙ ap (λ z. (z || has (comings rs) t) && not (has (goings rs) t)) (segments_had d r h.0 t)
    ∙ by (is_segment d t) (segment_is t (segment r.a r.b)) (segment_is t (segment r.a r.at)) (segment_is t (segment r.b r.at)) (has (comings rs) t) (has (goings rs) t)
    (λ e. segment_stays_out d (r ∷ rs) h t (ap (is_segment d) (same_segment t (segment r.a r.b) e) ∙ h.0.joined))
  where
    by : (was goes first second later gone : Bool)
        → (goes ≡ true → (first || (second || later)) ≡ false)
        → ((((was && not goes) || (first || (second || false))) || later) && not gone)
        ≡ ((was || (first || (second || later))) && not (goes || gone))
    by was goes first second later gone f = grind arith

-- what is true of the document, and of every map's, is true of the document with all
pub true_of_all : (P : Document → Type 0) → ((d : Document) → IsMap d → P d) → (d : Document)
    → (rs : List Removal) → AreOut d rs → P d → P (with_all d rs)
true_of_all P f d [] h p = p
true_of_all P f d (r ∷ rs) h p = true_of_all P f (with_one d r) rs h.1 (f (with_one d r) h.0.map)
