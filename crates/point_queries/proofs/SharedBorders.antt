-- Two features have a segment in common where a ring of one has the segment of an edge of the other.
use Rattle.kit_words.proofs.Common.{◌≡◌, ℕ, Bool, true, refl, sym, ap, ap₂, ◌∙◌, subst, arith, List, [], ◌∷◌, map}
use Rattle.kit_words.proofs.Common.{Option, Some, None, option_map, ◌&&◌, not, ◌==◌, find, filter, flat_map, list_any}
use Rattle.kit_words.proofs.Common.{Decides-eqb, and_parts, and_from}
use Rattle.grid_geometry.specs.Common.{Position, Edge, edges, Segment, segment, segment_eq}
use Rattle.ring_machine.specs.Common.{Document, Feature, features, feature, rings_of, segments_of, have_common}
use Rattle.ring_machine.specs.Common.{neighbours_of, feature_at, or_else, no_feature, segment_of, segments}
use Rattle.ring_machine.specs.Common.{are_distinct}
use Rattle.ring_machine.proofs.Common.{In, filter-in, in-map, in-flat_map, contains_in, in_contains}
use Rattle.ring_machine.proofs.Common.{in_mapped, in_flat, any_in, in_any, mapped_there, in-filter, slice-in}
use Rattle.ring_machine.proofs.Found as finding
use Rattle.map_frame.specs.declared.names.RingName.{RingName}
use Rattle.map_frame.specs.Common.{Shown, shown, element, frame_ring}
use Rattle.map_frame.proofs.Common.{element_is}
use Rattle.arc_store.proofs.Common.{ring_named}
use Rattle.arc_store.specs.Common.{HasOne, ListsRingNames}
use Rattle.point_queries.specs.Common.{IsSorted}
use Rattle.point_queries.proofs.Ascending.{numbers_found}

-- ---- the feature with a number

pub found_in : (n : ℕ) (fs : List Feature) (g : Feature) → find (λ f. f.number == n) fs ≡ Some g
    → In g fs × (g.number ≡ n)
found_in n fs g e =
    let k = finding.found_in (λ f. f.number == n) fs g e in
    (k.0, (Decides-eqb g.number n).0 k.1)

-- ---- rings by their names

-- a ring with a name is a ring of the feature that the name has
pub named_ring : (d : Document) (name : RingName) (ps : List Position)
    → frame_ring d name.feature name.polygon name.ring ≡ Some ps
    → (g : Feature) × In g (features d) × (g.number ≡ name.feature) × In ps (rings_of g)
named_ring d name ps e =
    let a = element_is (element (option_map (λ f. f.polygons) (feature d name.feature)) name.polygon) name.ring ps e in
    let b = element_is (option_map (λ f. f.polygons) (feature d name.feature)) name.polygon a.0 a.1 in
    let g = mapped_there (λ (f : Feature). f.polygons) (feature d name.feature) b.0 b.1 in
    let at = found_in name.feature (features d) g.0 g.1 in
    let polygon : In a.0 (g.0).polygons = subst (In a.0) (sym g.2) (slice-in b.0 name.polygon a.0 b.2) in
    (g.0, at.0, at.1, in-flat_map (λ (polygon : List (List Position)). polygon) a.0 ps (g.0).polygons polygon (slice-in a.0 name.ring ps a.2))

filter_mapped : {X Y : Type 0} (test : Y → Bool) (f : X → Y) (xs : List X) → filter test (map f xs) ≡ map f (filter (λ x. test (f x)) xs)
filter_mapped test f [] = refl
filter_mapped test f (x ∷ xs) = grind (arith, filter_mapped test f xs)

-- ---- edges and segments of a feature

abbrev pub edges_of : Feature → List Edge
edges_of f = flat_map (flat_map edges) f.polygons

edge_segment : (f : Feature) (e : Edge) → In e (edges_of f) → In (segment e.0 e.1) (segments_of f)
edge_segment f e i =
    let a = in_flat (flat_map edges) e f.polygons i in
    let b = in_flat edges e a.0 a.2 in
    in-flat_map segments b.0 (segment e.0 e.1) (rings_of f)
    (in-flat_map (λ (polygon : List (List Position)). polygon) a.0 b.0 f.polygons a.1 b.1)
    (in-map segment_of e (edges b.0) b.2)

segment_edge : (f : Feature) (s : Segment) → In s (segments_of f)
    → (e : Edge) × In e (edges_of f) × (segment e.0 e.1 ≡ s)
segment_edge f s i =
    let a = in_flat segments s (rings_of f) i in
    let b = in_flat (λ (polygon : List (List Position)). polygon) a.0 f.polygons a.1 in
    let e = in_mapped segment_of s (edges a.0) a.2 in
    (e.0, in-flat_map (flat_map edges) b.0 e.0 f.polygons b.1 (in-flat_map edges a.0 e.0 b.0 b.2 e.1), e.2)

module _ (d : Document) (distinct : are_distinct (map (λ f. f.number) (features d)) ≡ true) (f : Feature) where
  -- a ring with a segment of the feature's is that of a feature with a common segment
  common_of : (name : RingName) → HasOne d (edges_of f) name
      → (g : Feature) × In g (features d) × (g.number ≡ name.feature) × (have_common f g ≡ true)
  common_of name h =
      let g = named_ring d name h.has.positions h.has.there in
      let s = segment h.edge.0 h.edge.1 in
      let t = any_in (segment_eq s) (segments h.has.positions) h.has.has in
      let there = in-flat_map segments h.has.positions t.0 (rings_of g.0) g.3 t.1 in (
        g.0,
        g.1,
        g.2,
        in_any (λ s. list_any (segment_eq s) (segments_of g.0)) s (segments_of f)
            (edge_segment f h.edge (contains_in (edges_of f) h.edge h.there))
            (in_any (segment_eq s) t.0 (segments_of g.0) there t.2),
      )

  of_common : (g : Feature) → In g (features d) → have_common f g ≡ true
      → (name : RingName) × (name.feature ≡ g.number) × HasOne d (edges_of f) name
  of_common g i h =
      let s = any_in (λ s. list_any (segment_eq s) (segments_of g)) (segments_of f) h in
      let t = any_in (segment_eq s.0) (segments_of g) s.2 in
      let ring = in_flat segments t.0 (rings_of g) t.1 in
      let name = ring_named d distinct g i ring.0 ring.1 in
      let e = segment_edge f s.0 s.1 in (
        name.0,
        name.1,
        record {
          edge = e.0;
          there = in_contains (edges_of f) e.0 e.1;
          has = record {
            positions = ring.0;
            there = name.2;
            has = in_any (segment_eq (segment (e.0).0 (e.0).1)) t.0 (segments ring.0) ring.2 (ap (λ z. segment_eq z t.0) e.2 ∙ t.2);
          };
        },
      )

  -- the numbers of the other features of these rings, ascending, are those of the neighbours
  pub neighbours_are : (n : ℕ) → f.number ≡ n → (names : List RingName) → ListsRingNames d (edges_of f) [] names
      → (found sorted : List ℕ) → found ≡ filter (λ m. not (m == n)) (map (λ name. name.feature) names)
      → IsSorted found sorted → sorted ≡ neighbours_of d f
  neighbours_are n number names l found sorted e o =
      numbers_found (λ name. name.feature) (filter other names) (λ g. not (g.number == f.number) && have_common f g) (features d)
      found sorted distinct (e ∙ filter_mapped (λ m. not (m == n)) (λ (name : RingName). name.feature) names) o
      (λ name i.
      let k = in-filter other name names i in
      let g = common_of name ((l.all name).0 (in_contains l.found name (subst (In name) l.appended k.0))) in
      (g.0, g.1, and_from _ (have_common f g.0) (ap₂ (λ y z. not (y == z)) g.2 number ∙ k.1) g.3, g.2))
      (λ g i h.
      let t = and_parts (not (g.number == f.number)) (have_common f g) h in
      let name = of_common g i t.1 in
      let there : In name.0 names = subst (In name.0) (sym l.appended) (contains_in l.found name.0 ((l.all name.0).1 name.2)) in
      (name.0, filter-in other name.0 names there (ap₂ (λ y z. not (y == z)) name.1 (sym number) ∙ t.0), name.1))
    where
      other : RingName → Bool
      other name = not (name.feature == n)

-- a feature that is shown has the number that it was asked for by
pub shown_number : (d : Document) (n : ℕ) (v : Shown) → Some v ≡ option_map shown (feature d n)
    → (feature_at d n).number ≡ n
shown_number d n v e = by (feature d n) refl e
  where
    by : (o : Option Feature) → feature d n ≡ o → Some v ≡ option_map shown o → (or_else no_feature o).number ≡ n
    by None h k = absurd cc
    by (Some f) h k = (found_in n (features d) f h).1
