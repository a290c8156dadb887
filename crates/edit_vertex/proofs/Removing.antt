-- What a removal is refused by, from what stands around the vertex.
use Rattle.kit_words.proofs.Common.{◌≡◌, ◌<◌, ◌≤◌, ℕ, Bool, true, false, refl, sym, ap, ap₂, ◌∙◌, subst, cond, List, []}
use Rattle.kit_words.proofs.Common.{◌∷◌, length, ◌||◌, Option, Some, arith, not, nat_lt, is_lt, is_gt, Ordering, Less}
use Rattle.kit_words.proofs.Common.{Equal, Greater, false≢true, lt-ltb, le-ltb, inl, inr}
use Rattle.grid_geometry.specs.Common.{Position, position_cmp, position_lt, Segment, segment, Edge, edges}
use Rattle.grid_geometry.proofs.Common.{segment-comm}
use Rattle.ring_machine.specs.Common.{has, is_ring, spots, segments, Document, rings, is_vertex, is_segment, del, around}
use Rattle.ring_machine.specs.Common.{is_junction, Proper, first_pair, remove_sweeps, Refusal, NoVertex, Junction}
use Rattle.ring_machine.specs.Common.{RingShort, SegmentExists, Sweeps, ◌unless◌, first_of, planar, are_long}
use Rattle.ring_machine.specs.Common.{is_bridged, remove_refusals}
use Rattle.ring_machine.proofs.Common.{In, all_in, has-in, begin_place, place_around, position_lt-irrefl, edges_start}
use Rattle.ring_machine.proofs.Common.{any_in, in_any, in_contains, contains_in, in_mapped, in-flat_map, pass_all}
use Rattle.arc_store.specs.Common.{Refuses, IsShortest, IsBetween}
use Rattle.arc_store.specs.declared.fault.EditFault.{EditFault}
use Rattle.arc_store.proofs.Common.{segment_in}
use Rattle.edit_vertex.specs.Common.{needs_no_pairs}
use Rattle.edit_vertex.proofs.Late.{is_late, late_end, late_fault}
use Rattle.edit_vertex.proofs.Lists.{not_all, any_same}

-- ---- the neighbours

-- a vertex stands somewhere between two
pub vertex_place : (d : Document) (p : Position) → Proper d → is_vertex d p ≡ true
    → (s : Segment) × In s (around d p)
vertex_place d p proper h =
    let r = any_in (λ ring. has ring p) (rings d) h in
    in_ring r.0 r.1 r.2 (all_in is_ring (rings d) r.0 proper.are_rings r.1)
  where
    in_ring : (ring : List Position) → In ring (rings d) → has ring p ≡ true → is_ring ring ≡ true
        → (s : Segment) × In s (around d p)
    in_ring [] i t k = absurd (false≢true k)
    in_ring (x ∷ []) i t k = absurd (false≢true k)
    in_ring (x ∷ y ∷ zs) i t k =
        let e = in_mapped (λ (f : Edge). f.0) p (edges (x ∷ y ∷ zs)) (subst (In p) (sym (edges_start x (y ∷ zs))) (has-in p (x ∷ y ∷ zs) t)) in
        let c = begin_place x y zs e.0 e.1 in
        let s = segment c.0 e.0.1 in
        (s, place_around d (x ∷ y ∷ zs) p s i (subst (λ z. In (z, s) (spots (x ∷ y ∷ zs))) e.2 c.1))

pub ordered_differ : (a b : Position) → position_lt a b ≡ true → a ≡ b → ⊥
ordered_differ a b h e = false≢true (sym (position_lt-irrefl b) ∙ ap (λ z. position_lt z b) (sym e) ∙ h)

pub ordered_ends : (a b : Position) → position_lt a b ≡ true
    → ((segment a b).lo ≡ a) × ((segment a b).hi ≡ b)
ordered_ends a b h = by (position_cmp a b) h
  where
    by : (o : Ordering) → is_lt o ≡ true
        → ((cond {A = Segment} (is_gt o) (record { lo = b; hi = a }) (record { lo = a; hi = b })).lo ≡ a) × ((cond {A = Segment} (is_gt o) (record { lo = b; hi = a }) (record { lo = a; hi = b })).hi ≡ b)
    by Less h = (refl, refl)
    by Equal h = absurd (false≢true h)
    by Greater h = absurd (false≢true h)

module _ (d : Document) (p a b : Position) (proper : Proper d) (between : IsBetween d p a b) where
  pub same_around : (s : Segment) → In s (around d p) → s ≡ segment a b
  same_around s i = between.each s (in_contains (around d p) s i)

  pub place_there : In (segment a b) (around d p)
  place_there =
      let s = vertex_place d p proper between.vertex in
      subst (λ z. In z (around d p)) (same_around s.0 s.1) s.1

  pub bridged_is : is_bridged d p ≡ is_segment d (segment a b)
  bridged_is = any_same (is_segment d) (around d p) (segment a b) place_there same_around

-- ---- the shortest ring

abbrev is_long : Position → List Position → Bool
is_long p ring = not (has ring p) || nat_lt 3 (length ring)

pub rings_long : (d : Document) (p : Position) (n : ℕ) → IsShortest d p n → 3 < n
    → are_long d p ≡ true
rings_long d p n s h = pass_all (is_long p) (rings d) (λ ring i. each ring i (has ring p) refl)
  where
    each : (ring : List Position) → In ring (rings d) → (t : Bool) → has ring p ≡ t
        → (not t || nat_lt 3 (length ring)) ≡ true
    each ring i false t = refl
    each ring i true t = lt-ltb 3 (length ring) (omega (arith, h, s.least ring (in_contains (rings d) ring i) t))

pub ring_short : (d : Document) (p : Position) (n : ℕ) → IsShortest d p n → n ≤ 3
    → are_long d p ≡ false
ring_short d p n s h =
    let short : length s.ring ≤ 3 = omega (arith, h, s.long) in
    not_all (is_long p) (rings d) s.ring (contains_in (rings d) s.ring s.there)
    (ap (λ t. not t || nat_lt 3 (length s.ring)) s.through ∙ le-ltb 3 (length s.ring) short)

-- in a ring of three the neighbours of each position are joined
three_bridged : (d : Document) (x y z p : Position) → In (x ∷ y ∷ z ∷ []) (rings d)
    → In p (x ∷ y ∷ z ∷ []) → is_bridged d p ≡ true
three_bridged d x y z p there at = by at
  where
    ring : List Position
    ring = x ∷ y ∷ z ∷ []

    joined : (s : Segment) → In (p, s) (spots ring) → In s (segments ring) → is_bridged d p ≡ true
    joined s i j =
        in_any (is_segment d) s (around d p) (place_around d ring p s there i)
        (segment_in d s (in-flat_map segments ring s (rings d) there j))

    by : In p ring → is_bridged d p ≡ true
    by (inl e) =
        joined (segment z y) (inr (inr (inl (ap (λ q. (q, segment z y)) e)))) (inr (inl (segment-comm y z)))
    by (inr (inl e)) =
        joined (segment x z) (inl (ap (λ q. (q, segment x z)) e)) (inr (inr (inl (segment-comm z x))))
    by (inr (inr (inl e))) =
        joined (segment y x) (inr (inl (ap (λ q. (q, segment y x)) e))) (inl (segment-comm x y))
    by (inr (inr (inr e))) = absurd e

-- so where its neighbours are not joined the rings of p have more positions
pub unbridged_long : (d : Document) (p : Position) → Proper d → is_bridged d p ≡ false
    → are_long d p ≡ true
unbridged_long d p proper free =
    pass_all (is_long p) (rings d) (λ ring i. each ring i (all_in is_ring (rings d) ring proper.are_rings i) (has ring p) refl)
  where
    each : (ring : List Position) → In ring (rings d) → is_ring ring ≡ true → (t : Bool)
        → has ring p ≡ t → (not t || nat_lt 3 (length ring)) ≡ true
    each ring i r false t = refl
    each [] i r true t = absurd (false≢true t)
    each (x ∷ []) i r true t = absurd (false≢true r)
    each (x ∷ y ∷ []) i r true t = absurd (false≢true r)
    each (x ∷ y ∷ z ∷ []) i r true t =
        absurd (false≢true (sym free ∙ three_bridged d x y z p i (has-in p (x ∷ y ∷ z ∷ []) t)))
    each (x ∷ y ∷ z ∷ w ∷ ps) i r true t = lt-ltb 3 (length (x ∷ y ∷ z ∷ w ∷ ps)) (omega arith)

-- ---- the refusal

-- the first refusal by the answers
abbrev remove_by : Option Refusal → Bool → Bool → Bool → Bool → Bool → Option Refusal
remove_by conflict sweeps vertex junction long bridged = first_of (
    NoVertex unless vertex
    ∷ Junction unless not junction
    ∷ RingShort unless long
    ∷ SegmentExists unless not bridged
    ∷ conflict
    ∷ Sweeps unless not sweeps
    ∷ []
    )

module _ (d : Document) (p : Position) where
  abbrev by : Bool → Bool → Bool → Bool → Option Refusal
  by vertex junction long bridged =
      remove_by (planar (del d p)) (remove_sweeps d p) vertex junction long bridged

  pub remove_no_vertex : is_vertex d p ≡ false → first_of (remove_refusals d p) ≡ Some NoVertex
  unfolding remove_refusals
  remove_no_vertex h = ap (λ v. by v (is_junction d p) (are_long d p) (is_bridged d p)) h

  pub remove_junction : is_vertex d p ≡ true → is_junction d p ≡ true
      → first_of (remove_refusals d p) ≡ Some Junction
  unfolding remove_refusals
  remove_junction h k = ap₂ (λ v j. by v j (are_long d p) (is_bridged d p)) h k

  module _ (h : is_vertex d p ≡ true) (k : is_junction d p ≡ false) where
    pub remove_short : are_long d p ≡ false → first_of (remove_refusals d p) ≡ Some RingShort
    unfolding remove_refusals
    remove_short l =
        ap₂ (λ v j. by v j (are_long d p) (is_bridged d p)) h k
        ∙ ap (λ z. by true false z (is_bridged d p)) l

    pub remove_bridged : are_long d p ≡ true → is_bridged d p ≡ true
        → first_of (remove_refusals d p) ≡ Some SegmentExists
    unfolding remove_refusals
    remove_bridged l m =
        ap₂ (λ v j. by v j (are_long d p) (is_bridged d p)) h k ∙ ap₂ (by true false) l m

    -- whether or not its rings are long enough
    pub bridged_refused : is_bridged d p ≡ true
        → (r : Refusal) × (first_of (remove_refusals d p) ≡ Some r)
    bridged_refused m = either (are_long d p) refl
      where
        either : (l : Bool) → are_long d p ≡ l → (r : Refusal) × (first_of (remove_refusals d p) ≡ Some r)
        either true e = (SegmentExists, remove_bridged e m)
        either false e = (RingShort, remove_short e)

    pub remove_late : are_long d p ≡ true → is_bridged d p ≡ false → (fault : EditFault)
        → Refuses fault (first_of (remove_refusals d p)) → needs_no_pairs fault ≡ false
    unfolding remove_refusals
    remove_late l m fault r =
        late_fault fault (first_of (remove_refusals d p))
        (ap is_late (ap₂ (λ v j. by v j (are_long d p) (is_bridged d p)) h k ∙ ap₂ (by true false) l m) ∙ late_end (first_pair (del d p)) (not (remove_sweeps d p))) r
