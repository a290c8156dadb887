-- The features on whose borders a position lies, by the segments near it.
use Rattle.kit_words.proofs.Common.{◌≡◌, ℕ, ℤ, Bool, true, false, refl, sym, ap, ap₂, ◌∙◌, subst, cond, ◌&&◌, arith}
use Rattle.kit_words.proofs.Common.{List, [], ◌∷◌, map, inl, inr, int_le, flat_map, int_min, int_max, ints, clamps}
use Rattle.kit_words.proofs.Common.{and_parts, and_from}
use Rattle.grid_geometry.specs.Common.{is_on, is_between, is_in_box, Position, Edge, edges, Segment, Box, segment}
use Rattle.grid_geometry.specs.Common.{segment_eq, box_of, boxes_meet}
use Rattle.grid_geometry.proofs.Common.{segment-comm}
use Rattle.ring_machine.specs.Common.{Document, Feature, features, rings, rings_of, all_segments, segments_of}
use Rattle.ring_machine.specs.Common.{is_on_border, border_at, segment_of, segments, are_distinct}
use Rattle.ring_machine.proofs.Common.{In, in-flat_map, segment_ordered, segment_eq-true, contains_in}
use Rattle.ring_machine.proofs.Common.{in_contains, in_mapped, in_flat, any_in, in_any}
use Rattle.map_frame.specs.declared.names.RingName.{RingName}
use Rattle.arc_store.specs.Common.{ListsNear, HasOne, ListsRingNames}
use Rattle.feature_exchange.proofs.Common.{segment_ends}
use Rattle.arc_store.proofs.Common.{in_segments, segment_in, ring_named}
use Rattle.point_queries.specs.Common.{IsSorted, on_edge}
use Rattle.point_queries.proofs.Ascending.{numbers_found}
use Rattle.point_queries.proofs.SharedBorders.{named_ring}

-- ---- a segment on which the position lies

-- a segment of the document is that of its ends
again : (a b : Position) → segment (segment a b).lo (segment a b).hi ≡ segment a b
again a b = elim (segment_ends a b) [
  | inl m ↦ ap₂ segment m.0 m.1
  | inr m ↦ ap₂ segment m.0 m.1 ∙ sym (segment-comm a b)
]

pub of_ends : (d : Document) (s : Segment) → In s (all_segments d) → segment s.lo s.hi ≡ s
of_ends d s i =
    let ring = in_flat segments s (rings d) i in
    let e = in_mapped segment_of s (edges ring.0) ring.2 in
    subst (λ z. segment z.lo z.hi ≡ z) e.2 (again (e.0).0 (e.0).1)

edge_on : (p : Position) (s : Segment) (e : Edge) → In e (on_edge p s)
    → (is_on p s.lo s.hi ≡ true) × ((s.lo, s.hi) ≡ e)
edge_on p s e i = by (is_on p s.lo s.hi) refl i
  where
    by : (b : Bool) → is_on p s.lo s.hi ≡ b → In e (cond b ((s.lo, s.hi) ∷ []) [])
        → (is_on p s.lo s.hi ≡ true) × ((s.lo, s.hi) ≡ e)
    by true t (inl h) = (t, h)
    by true t (inr h) = absurd h
    by false t h = absurd h

on_edge_there : (p : Position) (s : Segment) → is_on p s.lo s.hi ≡ true → In (s.lo, s.hi) (on_edge p s)
on_edge_there p s h = subst (λ b. In {A = Edge} (s.lo, s.hi) (cond b ((s.lo, s.hi) ∷ []) [])) (sym h) (inl refl)

-- the box of one position
abbrev pub box_at : Position → Box
box_at p = record { x0 = p.x; y0 = p.y; x1 = p.x; y1 = p.y }

between_meets : (a b z : ℤ) → is_between a b z ≡ true
    → (int_le (int_min a b) z && int_le z (int_max a b)) ≡ true
between_meets a b z h = grind (arith, ints, clamps)

on_meets : (p : Position) (s : Segment) → is_on p s.lo s.hi ≡ true → boxes_meet (box_of s) (box_at p) ≡ true
unfolding is_on
on_meets p s h =
    let box = (and_parts _ (is_in_box p s.lo s.hi) h).1 in
    let k = and_parts (is_between s.lo.x s.hi.x p.x) (is_between s.lo.y s.hi.y p.y) box in
    and_from _ _ (between_meets s.lo.x s.hi.x p.x k.0) (between_meets s.lo.y s.hi.y p.y k.1)

module _ (d : Document) (distinct : are_distinct (map (λ f. f.number) (features d)) ≡ true) (p : Position)
    (near : List Segment) (n : ListsNear d (box_at p) [] near) where
  near_in : (s : Segment) → In s near → In s (all_segments d)
  near_in s i = in_segments d s (n.among s (in_contains n.found s (subst (In s) n.appended i)))

  border_of : (name : RingName) → HasOne d (flat_map (on_edge p) near) name
      → (g : Feature) × In g (features d) × (is_on_border p g ≡ true) × (g.number ≡ name.feature)
  border_of name h =
      let s = in_flat (on_edge p) h.edge near (contains_in (flat_map (on_edge p) near) h.edge h.there) in
      let e = edge_on p s.0 h.edge s.2 in
      let is : segment h.edge.0 h.edge.1 ≡ s.0 = ap (λ (z : Edge). segment z.0 z.1) (sym e.1) ∙ of_ends d s.0 (near_in s.0 s.1) in
      let g = named_ring d name h.has.positions h.has.there in
      let t = any_in (segment_eq (segment h.edge.0 h.edge.1)) (segments h.has.positions) h.has.has in
      let same : s.0 ≡ t.0 = sym is ∙ segment_eq-true (segment h.edge.0 h.edge.1) t.0 t.2 in (
        g.0,
        g.1,
        in_any (λ s. is_on p s.lo s.hi) t.0 (segments_of g.0)
            (in-flat_map segments h.has.positions t.0 (rings_of g.0) g.3 t.1)
            (ap (λ (z : Segment). is_on p z.lo z.hi) (sym same) ∙ e.0),
        g.2,
      )

  of_border : (g : Feature) → In g (features d) → is_on_border p g ≡ true
      → (name : RingName) × (name.feature ≡ g.number) × HasOne d (flat_map (on_edge p) near) name
  of_border g i h =
      let s = any_in (λ s. is_on p s.lo s.hi) (segments_of g) h in
      let ring = in_flat segments s.0 (rings_of g) s.1 in
      let all : In s.0 (all_segments d) = in-flat_map segments ring.0 s.0 (rings d) (in-flat_map rings_of g ring.0 (features d) i ring.1) ring.2 in
      let there : In s.0 near =
      subst (In s.0) (sym n.appended) (contains_in n.found s.0 (n.covers s.0 (segment_in d s.0 all) (on_meets p s.0 s.2))) in
      let name = ring_named d distinct g i ring.0 ring.1 in (
        name.0,
        name.1,
        record {
          edge = ((s.0).lo, (s.0).hi);
          there = in_contains (flat_map (on_edge p) near) ((s.0).lo, (s.0).hi) (in-flat_map (on_edge p) s.0 ((s.0).lo, (s.0).hi) near there (on_edge_there p s.0 s.2));
          has = record {
            positions = ring.0;
            there = name.2;
            has = in_any (segment_eq (segment (s.0).lo (s.0).hi)) s.0 (segments ring.0) ring.2 (ap (λ z. segment_eq z s.0) (of_ends d s.0 all) ∙ segment_ordered.eq-refl s.0);
          };
        },
      )

  -- the numbers of the features of these rings, ascending, are those on whose borders p lies
  pub border_are : (names : List RingName) → ListsRingNames d (flat_map (on_edge p) near) [] names
      → (found sorted : List ℕ) → found ≡ map (λ name. name.feature) names → IsSorted found sorted
      → sorted ≡ border_at d p
  border_are names l found sorted e o =
      numbers_found (λ name. name.feature) names (is_on_border p) (features d) found sorted distinct e o
      (λ name i. border_of name ((l.all name).0 (in_contains l.found name (subst (In name) l.appended i))))
      (λ g i h.
      let name = of_border g i h in
      (name.0, subst (In name.0) (sym l.appended) (contains_in l.found name.0 ((l.all name.0).1 name.2)), name.1))
