-- What stands around a vertex of a kept map: it is no junction where exactly two are joined to it.
use Rattle.kit_words.proofs.Common.{◌≡◌, ◌≢◌, ◌↔◌, ◌≤◌, ℕ, arith, length, ◌||◌, ◌&&◌, true, false, refl, sym, ap, ap₂}
use Rattle.kit_words.proofs.Common.{◌∙◌, subst, List, [], ◌∷◌, ◌⊎◌, inl, inr, Some, None, is_some, length-map, not}
use Rattle.kit_words.proofs.Common.{false≢true, true_from_ne_false, not-false}
use Rattle.std.specs.FinMap as table
use Rattle.grid_geometry.specs.Common.{Position, Segment, segment, segment_eq, is_end, IsSegment}
use Rattle.grid_geometry.proofs.Common.{segment-comm}
use Rattle.ring_machine.specs.Common.{rings, is_vertex, is_segment, has, canonical, is_bridged, holds_other}
use Rattle.ring_machine.specs.Common.{remove_sweeps, del, around, all_equal, is_junction}
use Rattle.ring_machine.proofs.Common.{In, place_around, has-in, in-has, in-map, same_ends, ring_distinct, any_in}
use Rattle.ring_machine.proofs.Common.{in_mapped, canonical_length, in_canonical}
use Rattle.arc_tables.specs.Common.{AreApart, Edge, times, begins}
use Rattle.ring_store.specs.declared.neighbours.Neighbours.TheVariants as Neighbours
use Rattle.ring_store.specs.declared.neighbours.Neighbours.TheVariants.{One, More}
use Rattle.ring_store.specs.Common.{Joined, Three, Passes, AreNeighbours}
use Rattle.vertex_index.specs.Common.{place}
use Rattle.feature_exchange.specs.Common.{Stored, positions_along, stored_document, IsWhole}
use Rattle.ring_store.proofs.Common.{IsKept, place_is, place_kept, one_key, times_edge, edge_times}
use Rattle.ring_store.proofs.Common.{edge_ends, of_canonical}
use Rattle.feature_exchange.proofs.Common.{joined_apart, Laid, begin_kept, segment_between, joined_back, key_vertex}
use Rattle.feature_exchange.proofs.Common.{document_ring, laid_ring, joined_at, joined_kept, joined_around}
use Rattle.feature_exchange.proofs.Common.{joined_segment, joined_differ, two_positions, end_is, end_of_two}
use Rattle.arc_store.proofs.Insertions.{AreRings, Comes, segments_come}
use Rattle.arc_store.proofs.Removals.{segments_del, HasSides, begun_there, spot_is, spot_of, all_equal_in, no_junction}
use Rattle.arc_store.proofs.Removals.{around_is, bridged_by, sweeps_by}
use Rattle.arc_store.proofs.RingEdits.{BegunAt, edge_on, edge_back, sides_differ}

-- ---- joined

-- keys whose positions are the ends of a segment of the map are joined
pub segment_joined : (s : Stored) (w : IsWhole s) (j k : ℕ) (a b : Position)
    → table.get s.places j ≡ Some a → table.get s.places k ≡ Some b
    → is_segment (stored_document s) (segment a b) ≡ true → Joined s.rings j k
segment_joined s w j k a b e f h =
    let t = segment_between s w (segment a b) h in
    by t.a t.b t.joined (same_ends (place s.places t.a, place s.places t.b) (a, b) (sym t.is))
  where
    key_of : (x y : ℕ) (p : Position) → IsKept s.places x → table.get s.places y ≡ Some p
        → p ≡ place s.places x → x ≡ y
    key_of x y p g u v = one_key s.places w.distinct x y g (place_kept s.places y p u) (sym v ∙ sym (place_is s.places y p u))

    by : (x y : ℕ) → Joined s.rings x y
        → ((a ≡ place s.places x) × (b ≡ place s.places y)) ⊎ ((a ≡ place s.places y) × (b ≡ place s.places x))
        → Joined s.rings j k
    by x y u (inl m) =
        let g = joined_kept s w x y u in
        subst (λ z. Joined s.rings z k) (key_of x j a g.0 e m.0) (subst (Joined s.rings x) (key_of y k b g.1 f m.1) u)
    by x y u (inr m) =
        let g = joined_kept s w x y u in
        subst (λ z. Joined s.rings z k) (key_of y j a g.1 e m.0) (subst (Joined s.rings y) (key_of x k b g.0 f m.1) (joined_back s x y u))

-- the ends of a segment differ
pub segment_differs : (s : Stored) (w : IsWhole s) (a b : Position)
    → is_segment (stored_document s) (segment a b) ≡ true → a ≢ b
segment_differs s w a b h e =
    let t = segment_between s w (segment a b) h in
    elim (same_ends (place s.places t.a, place s.places t.b) (a, b) (sym t.is)) [
      | inl m ↦ joined_apart s w t.a t.b t.joined (sym m.0 ∙ e ∙ m.1)
      | inr m ↦ joined_apart s w t.a t.b t.joined (sym m.1 ∙ sym e ∙ m.0)
    ]

-- the two segments that a new position between a and b has are segments, are two, and are new
pub come_over : (s : Stored) (w : IsWhole s) (a b q : Position)
    → is_segment (stored_document s) (segment a b) ≡ true → is_vertex (stored_document s) q ≡ false
    → Comes (stored_document s) (segment a q) (segment q b)
come_over s w a b q h free = segments_come (stored_document s) a b q (segment_differs s w a b h) h free

-- a key without a position is joined to none
pub none_joined : (s : Stored) (w : IsWhole s) (n : ℕ) → table.get s.places n ≡ None → (x : ℕ)
    → ¬ Joined s.rings n x
none_joined s w n e x h = false≢true (sym (ap is_some e) ∙ (joined_kept s w n x h).0)

-- ---- two

-- exactly these two vertices are joined to m
abbrev pub AreTwo : Stored → ℕ → ℕ → ℕ → Type 0
AreTwo s m j k = (j ≢ k) × ((x : ℕ) → Joined s.rings m x ↔ ((x ≡ j) ⊎ (x ≡ k)))

module _ (s : Stored) (w : IsWhole s) (m : ℕ) (p : Position) (here : table.get s.places m ≡ Some p) where
  pub are_rings : AreRings (stored_document s)
  are_rings = document_ring s w

  pub is_there : is_vertex (stored_document s) p ≡ true
  is_there = key_vertex s w m p here

  p_is : place s.places m ≡ p
  p_is = place_is s.places m p here

  -- the keys of the neighbours in a ring
  pub record Sides (ring : List Position) (t : BegunAt p ring) : Type 0 where
    pub x : ℕ
    pub y : ℕ
    pub apart : x ≢ y
    pub joined_x : Joined s.rings m x
    pub joined_y : Joined s.rings m y
    pub is_x : place s.places x ≡ t.x
    pub is_y : place s.places y ≡ t.y

  pub sides_of : (ring : List Position) → In ring (rings (stored_document s)) → (t : BegunAt p ring) → Sides ring t
  sides_of ring h t =
      let d = ring_distinct ring (are_rings ring h) in
      let l = laid_ring s w ring h in
      let kept = place_kept s.places m p here in
      let on = (joined_at s w ring l m kept (p, t.x) (edge_on p ring d t)).1 (sym p_is) in
      let back = (joined_at s w ring l m kept (t.y, p) (edge_back p ring d t)).0 (sym p_is) in
      record {
        x = on.0;
        y = back.0;
        apart = λ e. sides_differ p ring d t (sym on.2 ∙ ap (place s.places) e ∙ back.2);
        joined_x = on.1;
        joined_y = back.1;
        is_x = on.2;
        is_y = back.2;
      }

  -- two that are joined to m, and stand beside it in one ring
  pub record Pair : Type 0 where
    pub x : ℕ
    pub y : ℕ
    pub apart : x ≢ y
    pub joined_x : Joined s.rings m x
    pub joined_y : Joined s.rings m y
    pub around_it : In (segment (place s.places x) (place s.places y)) (around (stored_document s) p)

  pub joined_pair : Pair
  joined_pair =
      let r = any_in (λ ring. has ring p) (rings (stored_document s)) is_there in
      let t = begun_there (stored_document s) p are_rings r.0 r.1 r.2 in
      let i = sides_of r.0 r.1 t in
      let u = spot_of p r.0 (are_rings r.0 r.1) t in
      let is = spot_is p r.0 (ring_distinct r.0 (are_rings r.0 r.1)) t u.0 u.1 in
      record {
        x = i.x;
        y = i.y;
        apart = i.apart;
        joined_x = i.joined_x;
        joined_y = i.joined_y;
        around_it = subst (λ z. In z (around (stored_document s) p)) (is ∙ ap₂ segment (sym i.is_x) (sym i.is_y)) (place_around (stored_document s) r.0 p u.0 r.1 u.1);
      }

  -- ---- two

  -- in each ring these two are the neighbours
  pub two_ways : (j k : ℕ) → AreTwo s m j k → (ring : List Position)
      → In ring (rings (stored_document s)) → (t : BegunAt p ring)
      → ((t.x ≡ place s.places j) × (t.y ≡ place s.places k)) ⊎ ((t.x ≡ place s.places k) × (t.y ≡ place s.places j))
  two_ways j k two ring h t =
      let i = sides_of ring h t in
      by i ((two.1 i.x).0 i.joined_x) ((two.1 i.y).0 i.joined_y)
    where
      by : (i : Sides ring t) → (i.x ≡ j) ⊎ (i.x ≡ k) → (i.y ≡ j) ⊎ (i.y ≡ k)
          → ((t.x ≡ place s.places j) × (t.y ≡ place s.places k)) ⊎ ((t.x ≡ place s.places k) × (t.y ≡ place s.places j))
      by i (inl u) (inl v) = absurd (i.apart (u ∙ sym v))
      by i (inl u) (inr v) = inl (sym i.is_x ∙ ap (place s.places) u, sym i.is_y ∙ ap (place s.places) v)
      by i (inr u) (inl v) = inr (sym i.is_x ∙ ap (place s.places) u, sym i.is_y ∙ ap (place s.places) v)
      by i (inr u) (inr v) = absurd (i.apart (u ∙ sym v))

  pub two_sides : (j k : ℕ) → AreTwo s m j k
      → HasSides (stored_document s) p (segment (place s.places j) (place s.places k))
  two_sides j k two ring h t = elim (two_ways j k two ring h t) [
    | inl u ↦ ap₂ segment u.0 u.1
    | inr u ↦ ap₂ segment u.0 u.1 ∙ segment-comm (place s.places k) (place s.places j)
  ]

  -- their segment is all that stands around m
  pub around_two : (j k : ℕ) → AreTwo s m j k → (t : Segment) → In t (around (stored_document s) p)
      → t ≡ segment (place s.places j) (place s.places k)
  around_two j k two = around_is (stored_document s) p are_rings (segment (place s.places j) (place s.places k)) (two_sides j k two) is_there

  pub bridged_two : (j k : ℕ) → AreTwo s m j k
      → is_bridged (stored_document s) p ≡ is_segment (stored_document s) (segment (place s.places j) (place s.places k))
  bridged_two j k two = bridged_by (stored_document s) p are_rings (segment (place s.places j) (place s.places k)) (two_sides j k two) is_there

  -- a removal of m sweeps over what the triangle of the three holds
  pub sweeps_two : (j k : ℕ) → AreTwo s m j k
      → let t = segment (place s.places j) (place s.places k) in
      remove_sweeps (stored_document s) p ≡ holds_other (stored_document s) (t.lo ∷ p ∷ t.hi ∷ []) t.lo p t.hi
  sweeps_two j k two = sweeps_by (stored_document s) p are_rings (segment (place s.places j) (place s.places k)) (two_sides j k two) is_there

  -- without m the segments at it go, and that of the two comes
  pub segments_two : (j k : ℕ) → AreTwo s m j k → (t : Segment)
      → is_segment (del (stored_document s) p) t
      ≡ ((is_segment (stored_document s) t && not (is_end p t)) || segment_eq t (segment (place s.places j) (place s.places k)))
  segments_two j k two = segments_del (stored_document s) p are_rings (segment (place s.places j) (place s.places k)) (two_sides j k two) is_there

  -- and that is a segment
  pub bridge_two : (j k : ℕ) → AreTwo s m j k → IsSegment (segment (place s.places j) (place s.places k))
  bridge_two j k two =
      let kept_j = (joined_kept s w m j ((two.1 j).1 (inl refl))).1 in
      let kept_k = (joined_kept s w m k ((two.1 k).1 (inr refl))).1 in
      two_positions (place s.places j) (place s.places k) (λ e. two.0 (one_key s.places w.distinct j k kept_j kept_k e))

  -- the two are not joined themselves, where the map has not their segment
  pub unbridged_two : (j k : ℕ) → AreTwo s m j k → is_bridged (stored_document s) p ≡ false
      → ¬ Joined s.rings j k
  unbridged_two j k two h g = false≢true (sym h ∙ bridged_two j k two ∙ joined_segment s w j k g)

  -- the three are different
  pub two_apart : (j k : ℕ) → AreTwo s m j k → AreApart j k m
  two_apart j k two =
      (two.0, λ e. joined_differ s w m j ((two.1 j).1 (inl refl)) (sym e), λ e. joined_differ s w m k ((two.1 k).1 (inr refl)) (sym e))

  pub two_no_junction : (j k : ℕ) → AreTwo s m j k → is_junction (stored_document s) p ≡ false
  two_no_junction j k two = no_junction (stored_document s) p are_rings (segment (place s.places j) (place s.places k)) (two_sides j k two) is_there

  -- ---- and only two

  pub single_two : is_junction (stored_document s) p ≡ false → (j : ℕ) × (k : ℕ) × AreTwo s m j k
  single_two h =
      let u = joined_pair in
      (u.x, u.y, (u.apart, λ z. (only u z, λ e. elim e [ inl f ↦ subst (Joined s.rings m) (sym f) u.joined_x | inr f ↦ subst (Joined s.rings m) (sym f) u.joined_y ])))
    where
      only : (u : Pair) (z : ℕ) → Joined s.rings m z → (z ≡ u.x) ⊎ (z ≡ u.y)
      only u z g =
          let a = joined_around s w m p here z g in
          let same = all_equal_in (around (stored_document s) p) (not-false (all_equal (around (stored_document s) p)) h) a.0 (segment (place s.places u.x) (place s.places u.y)) a.1 u.around_it in
          let kept = (joined_kept s w m z g).1 in
          elim (end_of_two (place s.places z) (place s.places u.x) (place s.places u.y) (ap (is_end (place s.places z)) (sym same) ∙ end_is (place s.places z) a.0 a.2)) [
            | inl e ↦ inl (one_key s.places w.distinct z u.x kept (joined_kept s w m u.x u.joined_x).1 e)
            | inr e ↦ inr (one_key s.places w.distinct z u.y kept (joined_kept s w m u.y u.joined_y).1 e)
          ]

  -- and is one where there are more
  pub three_junction : Three s.rings m → is_junction (stored_document s) p ≡ true
  three_junction t = true_from_ne_false _ (λ h. let u = single_two h in among u.0 u.1 u.2)
    where
      among : (j k : ℕ) → AreTwo s m j k → ⊥
      among j k two = pick ((two.1 t.a).0 t.joined.0) ((two.1 t.b).0 t.joined.1) ((two.1 t.c).0 t.joined.2)
        where
          pick : (t.a ≡ j) ⊎ (t.a ≡ k) → (t.b ≡ j) ⊎ (t.b ≡ k) → (t.c ≡ j) ⊎ (t.c ≡ k) → ⊥
          pick (inl e) (inl f) g = t.apart.0 (e ∙ sym f)
          pick (inr e) (inr f) g = t.apart.0 (e ∙ sym f)
          pick (inl e) (inr f) (inl g) = t.apart.1 (e ∙ sym g)
          pick (inl e) (inr f) (inr g) = t.apart.2 (f ∙ sym g)
          pick (inr e) (inl f) (inl g) = t.apart.2 (f ∙ sym g)
          pick (inr e) (inl f) (inr g) = t.apart.1 (e ∙ sym g)

  -- ---- by an answer on the neighbours

  -- a vertex has two neighbours or more
  pub neighbours_none : AreNeighbours s.rings m Neighbours.None → ⊥
  neighbours_none h = h joined_pair.x joined_pair.joined_x

  pub neighbours_one : (a : ℕ) → AreNeighbours s.rings m (One a) → ⊥
  neighbours_one a h =
      let u = joined_pair in
      u.apart ((h u.x).0 u.joined_x ∙ sym ((h u.y).0 u.joined_y))

  pub neighbours_more : AreNeighbours s.rings m More → is_junction (stored_document s) p ≡ true
  neighbours_more h = three_junction h

  -- ---- long rings

  pub ring_length : (es : List Edge) → length (canonical (positions_along s.places es)) ≡ length es
  ring_length es =
      omega (arith, canonical_length (positions_along s.places es), length-map (begins es) (place s.places), length-map es (λ (e : Edge). e.0))

  -- a ring passes m where it has p
  pub passes_has : (r : ℕ) (es : List Edge) → table.get s.rings r ≡ Some es → (x : ℕ) → 1 ≤ times m x es
      → has (canonical (positions_along s.places es)) p ≡ true
  passes_has r es e x h =
      let f = times_edge m x es h in
      let ends = edge_ends es (w.round r es e) f.0 f.1 in
      let i : In m (begins es) = elim f.2 [ inl u ↦ subst (λ z. In z (begins es)) u.0 ends.0 | inr u ↦ subst (λ z. In z (begins es)) u.1 ends.1 ] in
      in-has p (canonical (positions_along s.places es)) (in_canonical (positions_along s.places es) p
      (subst (λ z. In z (positions_along s.places es)) p_is (in-map (place s.places) m (begins es) i)))

  pub has_passes : (ring : List Position) (l : Laid s ring) → has ring p ≡ true → Passes s.rings m l.along
  has_passes ring l h =
      let i = of_canonical (positions_along s.places l.along) p (subst (In p) l.is (has-in p ring h)) in
      let y = in_mapped (place s.places) p (begins l.along) i in
      let same = one_key s.places w.distinct y.0 m (begin_kept s w l.number l.along l.held y.0 y.1) (place_kept s.places m p here) (y.2 ∙ sym p_is) in
      let e = in_mapped (λ (e : Edge). e.0) y.0 l.along y.1 in
      record { ring = l.number; other = e.0.1; held = l.held; has = edge_times m e.0.1 l.along e.0 e.1 (inl (e.2 ∙ same, refl)) }
