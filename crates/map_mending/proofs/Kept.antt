-- What a mended document keeps: its vertices, and that nothing is far from where it was.
use Rattle.kit_words.proofs.Common.{◌≡◌, ℕ, Bool, true, false, cond, List, [], ◌∷◌, map, refl, sym, ap, ◌∙◌, subst, inl}
use Rattle.kit_words.proofs.Common.{inr, ◌⊎◌, reverse, arith, nat_lt, nat_le, length, All, AllZip, flat_map, list_all}
use Rattle.kit_words.proofs.Common.{false≢true, All-tail, IsPermutation-reverse, and_parts}
use Rattle.grid_geometry.specs.Common.{Position, position_lt, Segment, segment_eq, Edge, edges}
use Rattle.ring_machine.specs.Common.{Feature, Document, features, rings_of, canonical, has, is_ring, is_distinct}
use Rattle.ring_machine.specs.Common.{begins_least, segment_of}
use Rattle.ring_machine.proofs.Common.{canonical_parts, In, any_in, in_any, in_contains, contains_in, in_flat}
use Rattle.ring_machine.proofs.Common.{in_mapped, in_swap, all_in, has-in, in-flat_map, segment_eq-true, in_permuted}
use Rattle.ring_machine.proofs.JoinedRing.{start_in}
use Rattle.segment_paths.specs.Common.{is_near}
use Rattle.topo_reader.specs.Common.{Polygons, is_simple}
use Rattle.walk_faults.specs.Common.{walk_segments, is_closed_ring}
use Rattle.walk_faults.proofs.Common.{vertex_side}
use Rattle.segment_paths.specs.Common.{PathOfSegment, IsWay, segments_with_path, inner_of}
use Rattle.walk_mending.specs.Common.{laid, edge_along, stays, parted, ArePartsOf, rings_of_parts, is_position_of, times_in_walks}
use Rattle.walk_mending.specs.Common.{is_odd_in}
use Rattle.walk_mending.proofs.Bounds.{any_counted, in-among}
use Rattle.walk_mending.proofs.Laws.{keeps_round, odd_ends, ends_there, odd_some}
use Rattle.map_mending.specs.Common.{MendedBy, GoesAround, KeepsVertices, VerticesStay, ComesFrom, stood, put}
use Rattle.map_mending.specs.Common.{StaysNear, AllStayNear, MendsPolygon, MendsFeature, Mended, polygons_of_parts}
use Rattle.map_mending.proofs.Features.{features_mended}

-- ---- pairs of lists

zip_in : {A B : Type 0} (R : A → B → Type 0) (xs : List A) (ys : List B) (x : A) → AllZip R xs ys → In x xs → (y : B) × In y ys × R x y
zip_in R [] ys x h i = absurd i
zip_in R (a ∷ xs) [] x h i = absurd h
zip_in R (a ∷ xs) (b ∷ ys) x h (inl e) = (b, inl refl, subst (λ z. R z b) e h.0)
zip_in R (a ∷ xs) (b ∷ ys) x h (inr i) = let k = zip_in R xs ys x h.1 i in (k.0, inr k.1, k.2)

zip_from : {A B : Type 0} (R : A → B → Type 0) (xs : List A) (ys : List B) (y : B) → AllZip R xs ys → In y ys → (x : A) × In x xs × R x y
zip_from R xs [] y h i = absurd i
zip_from R [] (b ∷ ys) y h i = absurd h
zip_from R (a ∷ xs) (b ∷ ys) y h (inl e) = (a, inl refl, subst (R a) e h.0)
zip_from R (a ∷ xs) (b ∷ ys) y h (inr i) = let k = zip_from R xs ys y h.1 i in (k.0, inr k.1, k.2)

zip_weaker : {A B : Type 0} (R S : A → B → Type 0) → ((a : A) (b : B) → R a b → S a b) → (xs : List A) (ys : List B) → AllZip R xs ys → AllZip S xs ys
zip_weaker R S f [] [] h = tt
zip_weaker R S f [] (y ∷ ys) h = absurd h
zip_weaker R S f (x ∷ xs) [] h = absurd h
zip_weaker R S f (x ∷ xs) (y ∷ ys) h = (f x y h.0, zip_weaker R S f xs ys h.1)

-- ---- positions of polygons

whose : (parts : Polygons) (p : Position) → is_position_of parts p ≡ true
    → (ring : List Position) × In ring (rings_of_parts parts) × In p ring
whose parts p h =
    let k = any_in (λ ring. has ring p) (rings_of_parts parts) h in
    (k.0, k.1, has-in p k.0 k.2)

-- a position of one part is one of all
of_all : (parts : List Polygons) (part : Polygons) (p : Position) → In part parts → is_position_of part p ≡ true → is_position_of (polygons_of_parts parts) p ≡ true
of_all parts part p i h =
    let k = any_in (λ ring. has ring p) (rings_of_parts part) h in
    let of_it = in_flat (λ rings. rings) k.0 part k.1 in
    let there : In of_it.0 (polygons_of_parts parts) = in-flat_map (λ z. z) part of_it.0 parts i of_it.1 in
    in_any (λ ring. has ring p) k.0 (rings_of_parts (polygons_of_parts parts)) (in-flat_map (λ rings. rings) of_it.0 k.0 (polygons_of_parts parts) there of_it.2) k.2

-- ---- what stays

module _ (paths : List PathOfSegment) where
  around : (walks : List (List Position)) → AllZip GoesAround walks (map canonical (map (laid paths) walks))
  around [] = tt
  around (walk ∷ walks) =
      let k = keeps_round paths walk in
      (record { front = k.0; back = k.1; kept = k.2; turned = k.3 }, around walks)

  kept_rings : (walks : List (List Position)) (part : Polygons) → MendsPolygon paths walks part → list_all is_simple (map (laid paths) walks) ≡ true
      → (polygon : List (List Position)) × In polygon part × AllZip GoesAround walks polygon
  kept_rings walks _ (stays h) k = (map canonical (map (laid paths) walks), inl refl, around walks)
  kept_rings walks part (parted h are) k = absurd (false≢true (sym h ∙ k))

  keeps_feature : (f g : Feature) → MendsFeature paths f g → KeepsVertices paths f g
  keeps_feature f g h =
      let parts = h.mended.parts in
      let same : g.polygons ≡ polygons_of_parts parts = ap (λ (z : Feature). z.polygons) h.result ∙ h.mended.joins in
      record {
        rings = λ walks i simple.
            let k = zip_in (MendsPolygon paths) f.polygons parts walks h.mended.mended (contains_in f.polygons walks i) in
            let r = kept_rings walks k.0 k.2 simple in (
              r.0,
              in_contains g.polygons r.0 (subst (In r.0) (sym same) (in-flat_map (λ z. z) k.0 r.0 parts k.1 r.1)),
              r.2,
            );
        ends = λ walks s i odd.
            let k = zip_in (MendsPolygon paths) f.polygons parts walks h.mended.mended (contains_in f.polygons walks i) in
            let e = odd_ends (map (laid paths) walks) k.0 k.2 s odd in (
              subst (λ z. is_position_of z s.lo ≡ true) (sym same) (of_all parts k.0 s.lo k.1 e.0),
              subst (λ z. is_position_of z s.hi ≡ true) (sym same) (of_all parts k.0 s.hi k.1 e.1),
            );
      }

  pub vertices_stay : (d e : Document) → Mended paths d e → VerticesStay paths d e
  vertices_stay d e h = zip_weaker (MendsFeature paths) (KeepsVertices paths) keeps_feature (features d) (features e) (features_mended paths d e h)

-- ---- what is near

-- a position on the path of a segment
inner_in : (paths : List PathOfSegment) (s : Segment) (p : Position) → All (λ q. IsWay q.0 q.1) paths → In p (inner_of paths s)
    → In s (segments_with_path paths) × (is_near p s ≡ true)
inner_in [] s p ways i = absurd i
inner_in (q ∷ qs) s p ways i = by (segment_eq s q.0) refl i (inner_in qs s p (All-tail (λ (r : PathOfSegment). IsWay r.0 r.1) q qs ways))
  where
    by : (b : Bool) → segment_eq s q.0 ≡ b → In p (cond b q.1 (inner_of qs s)) → (In p (inner_of qs s) → In s (segments_with_path qs) × (is_near p s ≡ true))
        → In s (q.0 ∷ segments_with_path qs) × (is_near p s ≡ true)
    by true e j later =
        let same = segment_eq-true s q.0 e in
        let way = ways 0 q (omega arith) in
        (inl (sym same), subst (λ t. is_near p t ≡ true) (sym same) (all_in (λ r. is_near r q.0) q.1 p way.near j))
    by false e j later = let k = later j in (inr k.0, k.1)

module _ (paths : List PathOfSegment) (ways : All (λ q. IsWay q.0 q.1) paths) where
  on_edge : (e : Edge) (p : Position) → In p (edge_along paths e) → (e.0 ≡ p) ⊎ In p (inner_of paths (segment_of e))
  on_edge e p (inl f) = inl f
  on_edge e p (inr i) = inr (by (position_lt e.0 e.1) i)
    where
      by : (b : Bool) → In p (cond b (inner_of paths (segment_of e)) (reverse (inner_of paths (segment_of e)))) → In p (inner_of paths (segment_of e))
      by true j = j
      by false j = in_permuted (inner_of paths (segment_of e)) (reverse (inner_of paths (segment_of e))) (IsPermutation-reverse (inner_of paths (segment_of e))) p j

  -- a position of a walk that is led along the paths
  laid_from : (walks : List (List Position)) (walk : List Position) (p : Position) → In walk walks → In p (laid paths walk) → ComesFrom paths walks p
  laid_from walks walk p i j =
      let k = in_flat (edge_along paths) p (edges walk) j in
      elim (on_edge k.0 p k.2) [
        | inl e ↦ stood (in_contains walks walk i) (in_contains walk p (subst (λ z. In z walk) e (start_in walk k.0 k.1)))
        | inr m ↦
            let n = inner_in paths (segment_of k.0) p ways m in
            put (in_contains walks walk i) (in_contains (edges walk) k.0 k.1) (in_contains (segments_with_path paths) (segment_of k.0) n.0) n.1
      ]

  -- each position of a ring of odd segments is one of the walks
  odd_from : (walks : List (List Position)) (parts : Polygons) → ArePartsOf walks parts → (ring : List Position) (p : Position)
      → In ring (rings_of_parts parts) → In p ring → (walk : List Position) × In walk walks × In p walk
  odd_from walks parts are ring p i j =
      let side = vertex_side ring (closed ring (all_in is_ring (rings_of_parts parts) ring are.rings i)) p j in
      let s = side.0 in
      let some : nat_lt 0 (times_in_walks (rings_of_parts parts) s) ≡ true =
      sym (any_counted (segment_eq s) (flat_map walk_segments (rings_of_parts parts)))
      ∙ in-among (flat_map walk_segments (rings_of_parts parts)) s (in-flat_map walk_segments ring s (rings_of_parts parts) i side.1) in
      let k = ends_there walks s (odd_some (times_in_walks walks s) (is_odd (is_odd_in walks s) (ap (nat_lt 0) (sym (are.odd s)) ∙ some))) in
      (k.0, k.1, elim side.2 [ inl e ↦ subst (λ z. In z k.0) e k.2 | inr e ↦ subst (λ z. In z k.0) e k.3 ])
    where
      closed : (r : List Position) → is_ring r ≡ true → is_closed_ring r ≡ true
      closed r h =
          let outer = and_parts (nat_le 3 (length r)) _ h in
          let inner = and_parts (is_distinct r) (begins_least r) outer.1 in
          rw (outer.0, inner.0) refl

      is_odd : (b : Bool) → nat_lt 0 (cond {A = ℕ} b 1 0) ≡ true → b ≡ true
      is_odd true h = refl
      is_odd false h = cc

  part_from : (walks : List (List Position)) (part : Polygons) → MendsPolygon paths walks part → (ring : List Position) (p : Position)
      → In ring (rings_of_parts part) → In p ring → (walk : List Position) × In walk walks × In p (laid paths walk)
  part_from walks _ (stays h) ring p i j =
      let of_it = in_flat (λ rings. rings) ring (map canonical (map (laid paths) walks) ∷ []) i in
      elim of_it.1 [
        | inl e ↦
            let turned = in_mapped canonical ring (map (laid paths) walks) (subst (In ring) (sym e) of_it.2) in
            let walk = in_mapped (laid paths) turned.0 walks turned.1 in
            let k = canonical_parts turned.0 in
            let there : In p turned.0 = subst (In p) (sym k.2) (in_swap p k.1 k.0 (subst (In p) k.3 (subst (In p) (sym turned.2) j))) in
            (walk.0, walk.1, subst (In p) (sym walk.2) there)
        | inr e ↦ absurd e
      ]
  part_from walks part (parted h are) ring p i j =
      let k = odd_from (map (laid paths) walks) part are ring p i j in
      let walk = in_mapped (laid paths) k.0 walks k.1 in
      (walk.0, walk.1, subst (In p) (sym walk.2) k.2)

  near_feature : (f g : Feature) → MendsFeature paths f g → StaysNear paths f g
  near_feature f g h p at =
      let parts = h.mended.parts in
      let same : g.polygons ≡ polygons_of_parts parts = ap (λ (z : Feature). z.polygons) h.result ∙ h.mended.joins in
      let ring = whose (polygons_of_parts parts) p (subst (λ z. is_position_of z p ≡ true) same at) in
      let polygon = in_flat (λ rings. rings) ring.0 (polygons_of_parts parts) ring.1 in
      let part = in_flat (λ (z : Polygons). z) polygon.0 parts polygon.1 in
      let walks = zip_from (MendsPolygon paths) f.polygons parts part.0 h.mended.mended part.1 in
      let k = part_from walks.0 part.0 walks.2 ring.0 p (in-flat_map (λ rings. rings) polygon.0 ring.0 part.0 part.2 polygon.2) ring.2 in
      laid_from (rings_of f) k.0 p (in-flat_map (λ polygon. polygon) walks.0 k.0 f.polygons walks.1 k.1) k.2

pub all_stay_near : (paths : List PathOfSegment) (d e : Document) → MendedBy d paths → Mended paths d e → AllStayNear paths d e
all_stay_near paths d e by h =
    zip_weaker (MendsFeature paths) (StaysNear paths) (near_feature paths by.are_paths.ways) (features d) (features e) (features_mended paths d e h)
