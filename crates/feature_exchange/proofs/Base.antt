-- A map that is kept, seen as its document: rings, vertices, segments, and what stands around a
-- vertex.
use Rattle.kit_words.proofs.Common.{◌≡◌, ◌≢◌, ◌≤◌, ◌↔◌, ℕ, Bool, true, refl, sym, ap, ap₂, ◌∙◌, subst, List, [], ◌∷◌}
use Rattle.kit_words.proofs.Common.{map, length, ◌||◌, ◌&&◌, ◌⊎◌, inl, inr, arith, Some, is_some, Contains, unwrap_or}
use Rattle.kit_words.proofs.Common.{list_any, filter, flat_map, false≢true, length-map, and_parts, or_cases, or_right}
use Rattle.std.specs.FinMap as table
use Rattle.grid_geometry.specs.Common.{Position, position_eq, Segment, segment, segment_eq, is_end}
use Rattle.grid_geometry.specs.Ring as geometry
use Rattle.grid_geometry.proofs.Common.{segment-comm}
use Rattle.ring_machine.specs.Common.{canonical, has, is_distinct, is_ring, segment_of, segments, spots, rings}
use Rattle.ring_machine.specs.Common.{is_vertex, is_segment, all_segments, around, are_distinct, holds_other}
use Rattle.ring_machine.specs.Common.{crosses_on_way, edge_sweeps, move_sweeps}
use Rattle.ring_machine.proofs.Common.{position_eq-true, segment_ordered, In, in-map, in-flat_map, has-in, in-has}
use Rattle.ring_machine.proofs.Common.{end_place, begin_place, place_around, first_end, second_end, segment_eq-true}
use Rattle.ring_machine.proofs.Common.{same_ends, rings-in_rings, canonical_is_ring, contains_in, in_contains}
use Rattle.ring_machine.proofs.Common.{in_mapped, in_flat, any_in, in_any, same_answer, there, in_canonical, in-filter}
use Rattle.vertex_index.specs.Common.{Placement, AreDistinct, place}
use Rattle.arc_tables.specs.Common.{Edge, begins}
use Rattle.ring_store.specs.Common.{Joined, GoesRound}
use Rattle.feature_exchange.specs.Common.{Stored, positions_along, ring_under, stored_document, IsWhole}
use Rattle.ring_store.proofs.Common.{IsKept, place_is, kept_place, place_kept, one_key, distinct_places}
use Rattle.ring_store.proofs.Common.{edge_of_canonical, edge_in_canonical, of_canonical, laid, begins_round}
use Rattle.ring_store.proofs.Common.{edges_round, edge_ends, edge_apart, times_edge, edge_times, beside_edges}
use Rattle.feature_exchange.proofs.Ends.{segment_ends, end_of_two, two_ends}

-- ---- what a ring of the document was made of

-- the ring with a number, and its edges
pub record Laid (s : Stored) (ring : List Position) : Type 0 where
  pub number : ℕ
  pub along : List Edge
  pub held : table.get s.rings number ≡ Some along
  pub round : GoesRound along
  pub is : ring ≡ canonical (positions_along s.places along)

-- the two keys of a segment
pub record Between (s : Stored) (t : Segment) : Type 0 where
  pub a : ℕ
  pub b : ℕ
  pub joined : Joined s.rings a b
  pub is : t ≡ segment (place s.places a) (place s.places b)

-- two vertices that are joined to k, and the segment of their positions
pub record Beside (s : Stored) (k : ℕ) (t : Segment) : Type 0 where
  pub a : ℕ
  pub b : ℕ
  pub joined_a : Joined s.rings k a
  pub joined_b : Joined s.rings k b
  pub is : t ≡ segment (place s.places a) (place s.places b)

-- these are the vertices that are joined to k
abbrev pub AreJoined : Stored → ℕ → List ℕ → Type 0
AreJoined s k xs = (x : ℕ) → Contains xs x ↔ Joined s.rings k x

-- the segments from these vertices to a position
abbrev pub segments_to : Placement → Position → List ℕ → List Segment
segments_to places q xs = map (λ x. segment (place places x) q) xs

-- to a position goes one segment from each vertex
pub one_to : (places : Placement) (q : Position) → AreDistinct places → (j k : ℕ)
    → IsKept places j → IsKept places k
    → segment (place places j) q ≡ segment (place places k) q → j ≡ k
one_to places q d j k h i e = one_key places d j k h i (elim (same_ends (place places j, q) (place places k, q) e) [
  | inl m ↦ sym m.0
  | inr m ↦ sym m.1 ∙ sym m.0
])

pub joined_back : (s : Stored) (j k : ℕ) → Joined s.rings j k → Joined s.rings k j
joined_back s j k h =
    let e = times_edge j k h.edges h.has in
    record { ring = h.ring; edges = h.edges; held = h.held; has = edge_times k j h.edges e.0 e.1 (elim e.2 [ inl i ↦ inr i | inr i ↦ inl i ]) }

module _ (s : Stored) (w : IsWhole s) where
  -- ---- rings

  pub ring_under_is : (r : ℕ) (es : List Edge) → table.get s.rings r ≡ Some es
      → ring_under s r ≡ canonical (positions_along s.places es)
  ring_under_is r es e = ap (λ o. canonical (positions_along s.places (unwrap_or o []))) e

  -- the vertices of a ring are kept
  pub begin_kept : (r : ℕ) (es : List Edge) → table.get s.rings r ≡ Some es → (k : ℕ)
      → In k (begins es) → IsKept s.places k
  begin_kept r es e k h = w.placed r k (es, e, in_contains (begins es) k h)

  pub positions_distinct : (r : ℕ) (es : List Edge) → table.get s.rings r ≡ Some es
      → is_distinct (positions_along s.places es) ≡ true
  positions_distinct r es e =
      let g = w.round r es e in
      distinct_places s.places w.distinct (begins es) (begin_kept r es e) (ap are_distinct (begins_round es g) ∙ g.different)

  pub positions_long : (r : ℕ) (es : List Edge) → table.get s.rings r ≡ Some es
      → 3 ≤ length (positions_along s.places es)
  positions_long r es e =
      let g = w.round r es e in
      omega (arith, length-map (begins es) (place s.places), ap length (begins_round es g), g.long)

  -- each ring that is kept is a ring, from its least position on
  pub ring_is_ring : (r : ℕ) (es : List Edge) → table.get s.rings r ≡ Some es
      → is_ring (ring_under s r) ≡ true
  ring_is_ring r es e =
      ap is_ring (ring_under_is r es e) ∙ canonical_is_ring (positions_along s.places es) (positions_long r es e) (positions_distinct r es e)

  pub rings_are : rings (stored_document s) ≡ map (ring_under s) (rings s.frame)
  rings_are = rings-in_rings (ring_under s) s.frame

  -- a number of the frame has a ring
  pub framed : (r : ℕ) → In r (rings s.frame) → (es : List Edge) × (table.get s.rings r ≡ Some es)
  framed r h = there (table.get s.rings r) ((w.named r).0 (in_contains (rings s.frame) r h))

  pub laid_ring : (ring : List Position) → In ring (rings (stored_document s)) → Laid s ring
  laid_ring ring h =
      let n = in_mapped (ring_under s) ring (rings s.frame) (subst (In ring) rings_are h) in
      let e = framed n.0 n.1 in
      record { number = n.0; along = e.0; held = e.1; round = w.round n.0 e.0 e.1; is = sym n.2 ∙ ring_under_is n.0 e.0 e.1 }

  pub document_ring : (ring : List Position) → In ring (rings (stored_document s))
      → is_ring ring ≡ true
  document_ring ring h =
      let l = laid_ring ring h in
      ap is_ring (l.is ∙ sym (ring_under_is l.number l.along l.held)) ∙ ring_is_ring l.number l.along l.held

  pub ring_laid : (r : ℕ) (es : List Edge) → table.get s.rings r ≡ Some es
      → In (canonical (positions_along s.places es)) (rings (stored_document s))
  ring_laid r es e =
      subst (In (canonical (positions_along s.places es))) (sym rings_are)
      (subst (λ z. In z (map (ring_under s) (rings s.frame))) (ring_under_is r es e)
      (in-map (ring_under s) r (rings s.frame) (contains_in (rings s.frame) r ((w.named r).1 (ap is_some e)))))

  -- ---- vertices

  -- a vertex of the document has a key
  pub vertex_key : (p : Position) → is_vertex (stored_document s) p ≡ true
      → (k : ℕ) × (table.get s.places k ≡ Some p)
  vertex_key p h =
      let r = any_in (λ ring. has ring p) (rings (stored_document s)) h in
      let l = laid_ring r.0 r.1 in
      let i = of_canonical (positions_along s.places l.along) p (subst (In p) l.is (has-in p r.0 r.2)) in
      let k = in_mapped (place s.places) p (begins l.along) i in
      (k.0, kept_place s.places k.0 (begin_kept l.number l.along l.held k.0 k.1) ∙ ap Some k.2)

  -- what has a key is a vertex of the document
  pub kept_vertex : (k : ℕ) → IsKept s.places k
      → is_vertex (stored_document s) (place s.places k) ≡ true
  kept_vertex k h =
      let v = w.passed k h in
      let es = v.1.0 in
      let i = in_canonical (positions_along s.places es) (place s.places k)
      (in-map (place s.places) k (begins es) (contains_in (begins es) k v.1.2)) in
      in_any (λ ring. has ring (place s.places k)) (canonical (positions_along s.places es)) (rings (stored_document s))
      (ring_laid v.0 es v.1.1) (in-has (place s.places k) (canonical (positions_along s.places es)) i)

  pub key_vertex : (k : ℕ) (p : Position) → table.get s.places k ≡ Some p
      → is_vertex (stored_document s) p ≡ true
  key_vertex k p e =
      ap (is_vertex (stored_document s)) (sym (place_is s.places k p e)) ∙ kept_vertex k (place_kept s.places k p e)

  -- ---- segments

  -- an edge of a ring of the document is an edge of keys
  pub key_edge : (ring : List Position) (l : Laid s ring) (e : geometry.Edge)
      → In e (geometry.edges ring) → (f : Edge) × In f l.along × (laid (place s.places) f ≡ e)
  key_edge ring l e h =
      in_mapped (laid (place s.places)) e l.along
      (subst (In e) (edges_round (place s.places) l.along l.round)
      (edge_of_canonical (positions_along s.places l.along) e (subst (λ z. In e (geometry.edges z)) l.is h)))

  pub edge_key : (r : ℕ) (es : List Edge) → table.get s.rings r ≡ Some es → (f : Edge) → In f es
      → In (laid (place s.places) f) (geometry.edges (canonical (positions_along s.places es)))
  edge_key r es e f h =
      edge_in_canonical (positions_along s.places es) (laid (place s.places) f)
      (subst (In (laid (place s.places) f)) (sym (edges_round (place s.places) es (w.round r es e)))
      (in-map (laid (place s.places)) f es h))

  -- a segment of the document is that of two joined vertices
  pub segment_between : (t : Segment) → is_segment (stored_document s) t ≡ true → Between s t
  segment_between t h =
      let u = any_in (segment_eq t) (all_segments (stored_document s)) h in
      let r = in_flat segments u.0 (rings (stored_document s)) u.1 in
      let e = in_mapped segment_of u.0 (geometry.edges r.0) r.2 in
      let l = laid_ring r.0 r.1 in
      let f = key_edge r.0 l e.0 e.1 in
      record {
        a = f.0.0;
        b = f.0.1;
        joined = record { ring = l.number; edges = l.along; held = l.held; has = edge_times f.0.0 f.0.1 l.along f.0 f.1 (inl (refl, refl)) };
        is = segment_eq-true t u.0 u.2 ∙ sym e.2 ∙ sym (ap segment_of f.2);
      }

  -- two joined vertices have a segment of the document
  pub joined_segment : (j k : ℕ) → Joined s.rings j k
      → is_segment (stored_document s) (segment (place s.places j) (place s.places k)) ≡ true
  joined_segment j k h =
      let e = times_edge j k h.edges h.has in
      let t = segment_of (laid (place s.places) e.0) in
      let i : In t (all_segments (stored_document s)) =
      in-flat_map segments (canonical (positions_along s.places h.edges)) t (rings (stored_document s)) (ring_laid h.ring h.edges h.held)
      (in-map segment_of (laid (place s.places) e.0) (geometry.edges (canonical (positions_along s.places h.edges))) (edge_key h.ring h.edges h.held e.0 e.1)) in
      let is : t ≡ segment (place s.places j) (place s.places k) = elim e.2 [
        | inl m ↦ ap₂ (λ x y. segment (place s.places x) (place s.places y)) m.0 m.1
        | inr m ↦ ap₂ (λ x y. segment (place s.places x) (place s.places y)) m.0 m.1 ∙ segment-comm (place s.places k) (place s.places j)
      ] in
      in_any (segment_eq (segment (place s.places j) (place s.places k))) t (all_segments (stored_document s)) i
      (ap (segment_eq (segment (place s.places j) (place s.places k))) is ∙ segment_ordered.eq-refl (segment (place s.places j) (place s.places k)))

  pub segment_iff : (t : Segment) → (is_segment (stored_document s) t ≡ true) ↔ Between s t
  segment_iff t = (segment_between t, λ b. ap (is_segment (stored_document s)) b.is ∙ joined_segment b.a b.b b.joined)

  -- joined vertices are kept
  pub joined_kept : (j k : ℕ) → Joined s.rings j k → IsKept s.places j × IsKept s.places k
  joined_kept j k h =
      let e = times_edge j k h.edges h.has in
      let ends = edge_ends h.edges (w.round h.ring h.edges h.held) e.0 e.1 in
      let kept = begin_kept h.ring h.edges h.held in
      elim e.2 [
        | inl m ↦ (subst (IsKept s.places) m.0 (kept e.0.0 ends.0), subst (IsKept s.places) m.1 (kept e.0.1 ends.1))
        | inr m ↦ (subst (IsKept s.places) m.1 (kept e.0.1 ends.1), subst (IsKept s.places) m.0 (kept e.0.0 ends.0))
      ]

  pub joined_differ : (j k : ℕ) → Joined s.rings j k → j ≢ k
  joined_differ j k h i =
      let e = times_edge j k h.edges h.has in
      edge_apart h.edges (w.round h.ring h.edges h.held) e.0 e.1
      (elim e.2 [ inl m ↦ m.0 ∙ i ∙ sym m.1 | inr m ↦ m.0 ∙ sym i ∙ sym m.1 ])

  -- and stand at different positions
  pub joined_apart : (j k : ℕ) → Joined s.rings j k → place s.places j ≢ place s.places k
  joined_apart j k h e =
      let kept = joined_kept j k h in
      joined_differ j k h (one_key s.places w.distinct j k kept.0 kept.1 e)

  -- ---- around a vertex

  -- an edge of positions that ends at the vertex joins its key
  pub joined_at : (ring : List Position) (l : Laid s ring) (k : ℕ) → IsKept s.places k
      → (e : geometry.Edge) → In e (geometry.edges ring)
      → ((e.1 ≡ place s.places k) → (a : ℕ) × Joined s.rings k a × (place s.places a ≡ e.0))
      × ((e.0 ≡ place s.places k) → (a : ℕ) × Joined s.rings k a × (place s.places a ≡ e.1))
  joined_at ring l k h e i =
      let f = key_edge ring l e i in
      let ends = edge_ends l.along l.round f.0 f.1 in
      let kept = begin_kept l.number l.along l.held in (
        λ j. let same = one_key s.places w.distinct f.0.1 k (kept f.0.1 ends.1) h (ap (λ (u : geometry.Edge). u.1) f.2 ∙ j) in
            (f.0.0, record { ring = l.number; edges = l.along; held = l.held; has = edge_times k f.0.0 l.along f.0 f.1 (inr (refl, same)) }, ap (λ (u : geometry.Edge). u.0) f.2),
        λ j. let same = one_key s.places w.distinct f.0.0 k (kept f.0.0 ends.0) h (ap (λ (u : geometry.Edge). u.0) f.2 ∙ j) in
            (f.0.1, record { ring = l.number; edges = l.along; held = l.held; has = edge_times k f.0.1 l.along f.0 f.1 (inl (same, refl)) }, ap (λ (u : geometry.Edge). u.1) f.2),
      )

  -- each segment around a vertex goes between two that are joined to it
  around_place : (k : ℕ) → IsKept s.places k → (t : Segment)
      → In t (around (stored_document s) (place s.places k)) → Beside s k t
  around_place k h t i =
      let p = place s.places k in
      let u = in_mapped (λ (spot : Position × Segment). spot.1) t (filter (λ spot. position_eq p spot.0) (flat_map spots (rings (stored_document s)))) i in
      let f = in-filter (λ (spot : Position × Segment). position_eq p spot.0) u.0 (flat_map spots (rings (stored_document s))) u.1 in
      let r = in_flat spots u.0 (rings (stored_document s)) f.0 in
      at r.0 r.1 u.0 (position_eq-true p u.0.0 f.1) u.2 r.2
    where
      at : (ring : List Position) → In ring (rings (stored_document s)) → (u : Position × Segment)
          → place s.places k ≡ u.0 → u.1 ≡ t → In u (spots ring) → Beside s k t
      at [] m u e g n = absurd n
      at (x ∷ []) m u e g n = absurd n
      at (x ∷ y ∷ zs) m u e g n =
          let b = beside_edges x y zs u n in
          let l = laid_ring (x ∷ y ∷ zs) m in
          let before = (joined_at (x ∷ y ∷ zs) l k h (b.0, u.0) b.3).0 (sym e) in
          let after = (joined_at (x ∷ y ∷ zs) l k h (u.0, b.1) b.4).1 (sym e) in
          record { a = before.0; b = after.0; joined_a = before.1; joined_b = after.1; is = sym g ∙ b.2 ∙ ap₂ segment (sym before.2) (sym after.2) }

  -- each that is joined to a vertex is an end of a segment around it
  place_around_joined : (k x : ℕ) → Joined s.rings k x
      → (t : Segment) × In t (around (stored_document s) (place s.places k)) × ((t.lo ≡ place s.places x) ⊎ (t.hi ≡ place s.places x))
  place_around_joined k x h =
      let e = times_edge k x h.edges h.has in
      at (canonical (positions_along s.places h.edges)) (ring_laid h.ring h.edges h.held) (laid (place s.places) e.0) (edge_key h.ring h.edges h.held e.0 e.1)
      (elim e.2 [
        | inl m ↦ inl (ap (place s.places) m.0, ap (place s.places) m.1)
        | inr m ↦ inr (ap (place s.places) m.0, ap (place s.places) m.1)
      ])
    where
      ends : (t : Segment) (p : Position) → p ≡ place s.places x → (t.lo ≡ p) ⊎ (t.hi ≡ p)
          → (t.lo ≡ place s.places x) ⊎ (t.hi ≡ place s.places x)
      ends t p e (inl i) = inl (i ∙ e)
      ends t p e (inr i) = inr (i ∙ e)

      at : (ring : List Position) → In ring (rings (stored_document s)) → (e : geometry.Edge)
          → In e (geometry.edges ring)
          → ((e.0 ≡ place s.places k) × (e.1 ≡ place s.places x)) ⊎ ((e.0 ≡ place s.places x) × (e.1 ≡ place s.places k))
          → (t : Segment) × In t (around (stored_document s) (place s.places k)) × ((t.lo ≡ place s.places x) ⊎ (t.hi ≡ place s.places x))
      at [] m e i j = absurd i
      at (y ∷ []) m e i j = absurd (false≢true (document_ring (y ∷ []) m))
      at (y ∷ z ∷ zs) m e i (inl j) =
          let b = begin_place y z zs e i in
          (segment b.0 e.1, place_around (stored_document s) (y ∷ z ∷ zs) (place s.places k) (segment b.0 e.1) m (subst (λ v. In (v, segment b.0 e.1) (spots (y ∷ z ∷ zs))) j.0 b.1), ends (segment b.0 e.1) e.1 j.1 (second_end b.0 e.1))
      at (y ∷ z ∷ zs) m e i (inr j) =
          let b = end_place y z zs e i in
          (segment e.0 b.0, place_around (stored_document s) (y ∷ z ∷ zs) (place s.places k) (segment e.0 b.0) m (subst (λ v. In (v, segment e.0 b.0) (spots (y ∷ z ∷ zs))) j.1 b.1), ends (segment e.0 b.0) e.0 j.0 (first_end e.0 b.0))

  pub joined_around : (k : ℕ) (p : Position) → table.get s.places k ≡ Some p → (x : ℕ)
      → Joined s.rings k x
      → (t : Segment) × In t (around (stored_document s) p) × ((t.lo ≡ place s.places x) ⊎ (t.hi ≡ place s.places x))
  joined_around k p e x h =
      let t = place_around_joined k x h in
      (t.0, subst (λ z. In t.0 (around (stored_document s) z)) (place_is s.places k p e) t.1, t.2)

  -- the edges at a vertex, by those that are joined to it
  pub edges_sweep : (k : ℕ) → IsKept s.places k → (xs : List ℕ) → AreJoined s k xs → (q : Position)
      → list_any (λ t. edge_sweeps (stored_document s) (place s.places k) q t.lo || edge_sweeps (stored_document s) (place s.places k) q t.hi) (around (stored_document s) (place s.places k))
      ≡ list_any (λ x. edge_sweeps (stored_document s) (place s.places k) q (place s.places x)) xs
  edges_sweep k h xs j q = same_answer _ _ (λ t.
      let u = any_in at_ends (around (stored_document s) p) t in
      let b = around_place k h u.0 u.1 in
      let in_a = contains_in xs b.a ((j b.a).1 b.joined_a) in
      let in_b = contains_in xs b.b ((j b.b).1 b.joined_b) in
      let here : (x : ℕ) → In x xs → (a : Position) → a ≡ place s.places x → sweeps a ≡ true → list_any (λ x. sweeps (place s.places x)) xs ≡ true
      = λ x i a e v. in_any (λ x. sweeps (place s.places x)) x xs i (ap sweeps (sym e) ∙ v) in
      elim (or_cases (sweeps u.0.lo) (sweeps u.0.hi) u.2) [
        | inl v ↦ elim (segment_ends (place s.places b.a) (place s.places b.b)) [
          | inl m ↦ here b.a in_a u.0.lo (ap (λ (t : Segment). t.lo) b.is ∙ m.0) v
          | inr m ↦ here b.b in_b u.0.lo (ap (λ (t : Segment). t.lo) b.is ∙ m.0) v
        ]
        | inr v ↦ elim (segment_ends (place s.places b.a) (place s.places b.b)) [
          | inl m ↦ here b.b in_b u.0.hi (ap (λ (t : Segment). t.hi) b.is ∙ m.1) v
          | inr m ↦ here b.a in_a u.0.hi (ap (λ (t : Segment). t.hi) b.is ∙ m.1) v
        ]
      ]) (λ t.
      let x = any_in (λ x. sweeps (place s.places x)) xs t in
      let u = place_around_joined k x.0 ((j x.0).0 (in_contains xs x.0 x.1)) in
      in_any at_ends u.0 (around (stored_document s) p) u.1 (elim u.2 [
        | inl m ↦ ap (λ b. b || sweeps u.0.hi) (ap sweeps m ∙ x.2)
        | inr m ↦ or_right (sweeps u.0.lo) (sweeps u.0.hi) (ap sweeps m ∙ x.2)
      ]))
    where
      p : Position
      p = place s.places k

      sweeps : Position → Bool
      sweeps a = edge_sweeps (stored_document s) (place s.places k) q a

      at_ends : Segment → Bool
      at_ends t = sweeps t.lo || sweeps t.hi

  -- a move of a vertex sweeps over a position, by those that are joined to it
  pub sweeps_by_joined : (k : ℕ) (p : Position) → table.get s.places k ≡ Some p → (xs : List ℕ)
      → AreJoined s k xs → (q : Position)
      → move_sweeps (stored_document s) p q
      ≡ (list_any (λ x. holds_other (stored_document s) (place s.places x ∷ p ∷ []) (place s.places x) p q) xs || crosses_on_way (stored_document s) p q)
  unfolding move_sweeps
  sweeps_by_joined k p e xs j q =
      subst (λ z. (list_any (λ t. edge_sweeps (stored_document s) z q t.lo || edge_sweeps (stored_document s) z q t.hi) (around (stored_document s) z) || crosses_on_way (stored_document s) z q) ≡ (list_any (λ x. edge_sweeps (stored_document s) z q (place s.places x)) xs || crosses_on_way (stored_document s) z q))
      (place_is s.places k p e)
      (ap (λ b. b || crosses_on_way (stored_document s) (place s.places k) q) (edges_sweep k (place_kept s.places k p e) xs j q))

  -- ---- the segments at a vertex

  -- those that end at a vertex go to what is joined to it
  pub segments_at : (k : ℕ) (p : Position) → table.get s.places k ≡ Some p → (xs : List ℕ)
      → AreJoined s k xs → (t : Segment)
      → (is_segment (stored_document s) t && is_end p t) ≡ list_any (segment_eq t) (segments_to s.places p xs)
  segments_at k p e xs j t = same_answer _ _ (λ h.
      let k' = and_parts (is_segment (stored_document s) t) (is_end p t) h in
      let b = segment_between t k'.0 in
      let kept = joined_kept b.a b.b b.joined in
      let here : (x : ℕ) → Joined s.rings k x → t ≡ segment (place s.places x) p → list_any (segment_eq t) (segments_to s.places p xs) ≡ true
      = λ x i m. in_any (segment_eq t) (segment (place s.places x) p) (segments_to s.places p xs) (in-map (λ x. segment (place s.places x) p) x xs (contains_in xs x ((j x).1 i))) (ap (segment_eq t) (sym m) ∙ segment_ordered.eq-refl t) in
      elim (end_of_two p (place s.places b.a) (place s.places b.b) (ap (is_end p) (sym b.is) ∙ k'.1)) [
        | inl m ↦
            let same = one_key s.places w.distinct b.a k kept.0 at (sym m ∙ sym is) in
            here b.b (subst (λ z. Joined s.rings z b.b) same b.joined) (b.is ∙ ap (λ z. segment z (place s.places b.b)) (sym m) ∙ segment-comm p (place s.places b.b))
        | inr m ↦
            let same = one_key s.places w.distinct b.b k kept.1 at (sym m ∙ sym is) in
            here b.a (subst (λ z. Joined s.rings z b.a) same (joined_back s b.a b.b b.joined)) (b.is ∙ ap (segment (place s.places b.a)) (sym m))
      ]) (λ h.
      let u = any_in (segment_eq t) (segments_to s.places p xs) h in
      let x = in_mapped (λ x. segment (place s.places x) p) u.0 xs u.1 in
      let m : t ≡ segment (place s.places x.0) p = segment_eq-true t u.0 u.2 ∙ sym x.2 in
      let joined = joined_back s k x.0 ((j x.0).0 (in_contains xs x.0 x.1)) in
      ap₂ (λ a b. a && b)
      (ap (is_segment (stored_document s)) (m ∙ ap (segment (place s.places x.0)) (sym is)) ∙ joined_segment x.0 k joined)
      (ap (is_end p) m ∙ (two_ends (place s.places x.0) p).1))
    where
      is : place s.places k ≡ p
      is = place_is s.places k p e

      at : IsKept s.places k
      at = place_kept s.places k p e
