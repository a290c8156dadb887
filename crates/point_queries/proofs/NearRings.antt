-- Which rings hold a position, by the segments that count as far as the boxes that have it.
use Rattle.kit_words.proofs.Common.{◌≡◌, ℤ, Bool, true, false, refl, sym, ap, ap₂, ◌∙◌, subst, cond, ◌&&◌, int_le}
use Rattle.kit_words.proofs.Common.{arith, unsigned_abs, ◌≤◌, w64, List, [], ◌∷◌, Option, Some, Contains, unwrap_or}
use Rattle.kit_words.proofs.Common.{filter, list_all, list_any, ints, to_z-of_z, and_parts}
use mir.Val.{of_z, to_z}
use Rattle.std.specs.FinSet as set
use Rattle.grid_geometry.specs.Common.{Position, Edge, edges, is_counted, is_inside, xor, Segment, Box, box_of}
use Rattle.grid_geometry.specs.Common.{boxes_meet, segment, segment_eq}
use Rattle.ring_machine.specs.Common.{Document, rings, segment_of, segments, is_ring}
use Rattle.ring_machine.proofs.Common.{In, in_contains, contains_in, any_in, in_any, in_mapped, there, in-map}
use Rattle.ring_machine.proofs.Common.{in-flat_map, segment_ordered, segment_eq-true, edge_ends, in-filter}
use Rattle.segment_index.specs.Common.{is_within, SegmentSet}
use Rattle.point_queries.specs.Common.{CoversRings, IsCovered, box_at, is_within_diagonal}
use Rattle.map_frame.specs.declared.names.RingName.{RingName}
use Rattle.arc_store.specs.Common.{ListsNear}
use Rattle.arc_store.proofs.Common.{segment_in}
use Rattle.point_queries.specs.Common.{ray_to, ray_back, is_behind, AreBehind, HaveOdd, odd, holds, is_passed, is_name}
use Rattle.point_queries.specs.Common.{ring_named, ring_has, HavePassed, TellsInside}
use Rattle.point_queries.proofs.Behind.{behind_is, some_behind}
use Rattle.point_queries.proofs.Holding.{behind_edge, behind_within, both_sides, box_has, counted_within, has_box, holds_in_diagonal}
use Rattle.point_queries.proofs.Odds.{odd-some}
use Rattle.point_queries.proofs.OddRings.{is_name-refl, is_name-true, of_has}
use Rattle.point_queries.proofs.OnBorders.{of_ends}
use Rattle.point_queries.proofs.Passing.{passed_edge}
use Rattle.point_queries.proofs.Telling.{odd_within, are_there, ring_there}

-- a coordinate as it is kept
pub read_back : (x : ℤ) → unsigned_abs x ≤ 1000000000000 → to_z w64 (of_z w64 x) ≡ x
read_back x h = to_z-of_z w64 x (omega (arith, ints))

-- the box within which a position is looked for, as far as it goes to either side
pub in_front : (p : Position) (r : Box) → is_within (box_at p) r ≡ true → unsigned_abs r.x1 ≤ 1000000000000
    → int_le p.x (to_z w64 (of_z w64 r.x1)) ≡ true
in_front p r h range = ap (int_le p.x) (read_back r.x1 range) ∙ (and_parts _ _ (and_parts _ _ h).0).1

pub in_back : (p : Position) (r : Box) → is_within (box_at p) r ≡ true → unsigned_abs r.x0 ≤ 1000000000000
    → int_le (to_z w64 (of_z w64 r.x0)) p.x ≡ true
in_back p r h range = ap (λ x. int_le x p.x) (read_back r.x0 range) ∙ (and_parts _ _ (and_parts _ _ h).0).0

-- ---- of the names, those that pass a test

pub odd_kept : (test : RingName → Bool) (name : RingName) (names : List RingName)
    → odd (is_name name) (filter test names) ≡ (test name && odd (is_name name) names)
odd_kept test name [] = grind arith
odd_kept test name (x ∷ names) = by (test x) (λ e. ap test (is_name-true name x e)) (odd_kept test name names)
  where
    more : (t c u : Bool) → (c ≡ true → t ≡ true) → xor c (t && u) ≡ (t && xor c u)
    more t c u same = grind arith

    less : (t c u : Bool) → (c ≡ true → t ≡ false) → (t && u) ≡ (t && xor c u)
    less t c u same = grind arith

    by : (b : Bool) → (is_name name x ≡ true → test name ≡ b)
        → odd (is_name name) (filter test names) ≡ (test name && odd (is_name name) names)
        → odd (is_name name) (cond b (x ∷ filter test names) (filter test names)) ≡ (test name && xor (is_name name x) (odd (is_name name) names))
    by true same h = ap (xor (is_name name x)) h ∙ more (test name) (is_name name x) (odd (is_name name) names) same
    by false same h = h ∙ less (test name) (is_name name x) (odd (is_name name) names) same

-- ---- within the least box around the boxes

-- what lies in a box lies in each that has all of it
lies_within : (b : Segment) (q : Position) (r : Box) → is_within_diagonal b q ≡ true → is_within (box_of b) r ≡ true
    → (int_le r.x0 q.x ≡ true) × (int_le q.x r.x1 ≡ true)
lies_within b q r h l =
    let has = box_has (box_of b) q h in
    let in_x = and_parts (int_le r.x0 (box_of b).x0) (int_le (box_of b).x1 r.x1) (and_parts _ _ l).0 in
    (through r.x0 (box_of b).x0 q.x in_x.0 has.left, through q.x (box_of b).x1 r.x1 has.right in_x.1)
  where
    through : (u v w : ℤ) → int_le u v ≡ true → int_le v w ≡ true → int_le u w ≡ true
    through u v w h l = grind (arith, ints)

-- an edge of the segment that a ring has
edge_of : (s : Segment) (ring : List Position) → list_any (segment_eq (segment s.lo s.hi)) (segments ring) ≡ true
    → (e : Edge) × In e (edges ring) × (segment e.0 e.1 ≡ segment s.lo s.hi)
edge_of s ring h =
    let t = any_in (segment_eq (segment s.lo s.hi)) (segments ring) h in
    let e = in_mapped segment_of t.0 (edges ring) t.1 in
    (e.0, e.1, e.2 ∙ sym (segment_eq-true (segment s.lo s.hi) t.0 t.2))

module _ (d : Document) (are_rings : list_all is_ring (rings d) ≡ true) (p : Position) (boxes : SegmentSet)
    (covers : CoversRings boxes (rings d)) (r : Box)
    (around : (b : Segment) → set.contains boxes b ≡ true → is_within_diagonal b p ≡ true → is_within (box_of b) r ≡ true)
    (names : List RingName) (h : HavePassed d p (ray_to p r.x1) names) where
  -- of a ring in a box that has the position
  module _ (ring : List Position) (i : In ring (rings d)) (has : is_within_diagonal (covers ring (in_contains (rings d) ring i)).by p ≡ true) where
    abbrev c : IsCovered boxes ring
    c = covers ring (in_contains (rings d) ring i)

    starts : (e : Edge) → In e (edges ring) → (int_le r.x0 (e.0).x ≡ true) × (int_le (e.0).x r.x1 ≡ true)
    starts e j = lies_within c.by e.0 r (c.within e.0 (in_contains ring e.0 (edge_ends ring e j).0)) (around c.by c.held has)

    -- the segments that count
    meets : (t : Segment) → In t (segments ring) → is_passed p t ≡ true → boxes_meet (box_of t) (ray_to p r.x1) ≡ true
    meets t j k =
        let e = in_mapped segment_of t (edges ring) j in
        subst (λ z. boxes_meet (box_of z) (ray_to p r.x1) ≡ true) e.2
        (counted_within p (e.0).0 (e.0).1 r.x1 (starts e.0 e.1).1 (sym (passed_edge p (e.0).0 (e.0).1) ∙ ap (is_passed p) e.2 ∙ k))

    -- the edges behind the position
    meets_behind : (e : Edge) → In e (edges ring) → behind_edge p e.0 e.1 ≡ true → boxes_meet (box_of (segment e.0 e.1)) (ray_back p r.x0) ≡ true
    meets_behind e j k = behind_within p e.0 e.1 r.x0 (starts e j).0 k

    -- an odd number of them count where it holds the position
    suspect : (name : RingName) → ring_named d name ≡ Some ring → odd (is_name name) names ≡ is_inside p ring
    suspect name e = odd_within d are_rings p (ray_to p r.x1) names h name ring e meets

  holding_has : (ring : List Position) (i : In ring (rings d)) → is_inside p ring ≡ true → is_within_diagonal (covers ring (in_contains (rings d) ring i)).by p ≡ true
  holding_has ring i inside = let c = covers ring (in_contains (rings d) ring i) in holds_in_diagonal c.by ring p c.within inside

  module _ (ss : List Segment) (near : ListsNear d (ray_back p r.x0) [] ss) (suspects behind : List RingName) (are : AreBehind d p suspects ss behind) where
    -- a suspect that holds the position has an edge behind it
    is_told : (name : RingName) (ring : List Position) → Contains suspects name → ring_named d name ≡ Some ring → is_inside p ring ≡ true → list_any (λ other. is_name other name) behind ≡ true
    is_told name ring q e inside =
        let i = ring_there d name ring e in
        let edge = some_behind p ring inside in
        let t = segment (edge.0).0 (edge.0).1 in
        let in_ring : In t (segments ring) = in-map segment_of edge.0 (edges ring) edge.1 in
        let in_all = in-flat_map segments ring t (rings d) i in_ring in
        let meet = meets_behind ring i (holding_has ring i inside) edge.0 edge.1 edge.2 in
        let given : Contains ss t = subst (λ z. Contains z t) (sym near.appended) (near.covers t (segment_in d t in_all) meet) in
        let has : ring_has d name t ≡ true =
        ap₂ (λ (z : Segment) (o : Option (List Position)). list_any (segment_eq z) (segments (unwrap_or o []))) (of_ends d t in_all) e
        ∙ in_any (segment_eq t) t (segments ring) in_ring (segment_ordered.eq-refl t) in
        in_any (λ other. is_name other name) name behind (contains_in behind name (are.covers name t q given has (behind_is p (edge.0).0 (edge.0).1 ∙ edge.2))) (is_name-refl name)

    -- one of which an odd number of segments count, and that has an edge behind the position, holds it
    both_hold : (name : RingName) → odd (is_name name) names ≡ true → list_any (λ other. is_name other name) behind ≡ true → holds d p name ≡ true
    both_hold name odds told =
        let other = any_in (λ other. is_name other name) behind told in
        let left = are.among name (in_contains behind name (subst (λ z. In z behind) (is_name-true other.0 name other.2) other.1)) in
        let right = odd-some (ring_has d name) h.ss (sym (ap (odd (is_name name)) h.listed.appended ∙ h.listed.odds name) ∙ odds) in
        let ring = of_has d left.0 name left.1 in
        let i = ring_there d name ring.positions ring.there in
        let c = covers ring.positions (in_contains (rings d) ring.positions i) in
        let e = edge_of left.0 ring.positions ring.has in
        let f = edge_of right.0 ring.positions
        (sym (ap (λ (o : Option (List Position)). list_any (segment_eq (segment (right.0).lo (right.0).hi)) (segments (unwrap_or o []))) ring.there) ∙ right.2) in
        let counted : is_counted p (f.0).0 (f.0).1 ≡ true =
        sym (passed_edge p (f.0).0 (f.0).1) ∙ ap (is_passed p) f.2 ∙ passed_edge p (right.0).lo (right.0).hi
        ∙ (h.passed.among right.0 (in_contains h.ss right.0 right.1)).1 in
        let back : behind_edge p (e.0).0 (e.0).1 ≡ true =
        sym (behind_is p (e.0).0 (e.0).1) ∙ ap (is_behind p) e.2 ∙ behind_is p (left.0).lo (left.0).hi ∙ left.2 in
        let at = λ (q : Position) (j : In q ring.positions). box_has (box_of c.by) q (c.within q (in_contains ring.positions q j)) in
        let g = edge_ends ring.positions f.0 f.1 in
        let k = edge_ends ring.positions e.0 e.1 in
        let has : is_within_diagonal c.by p ≡ true = has_box (box_of c.by) p
        (both_sides (box_of c.by) p (f.0).0 (f.0).1 (e.0).0 (e.0).1 (at (f.0).0 g.0) (at (f.0).1 g.1) (at (e.0).0 k.0) (at (e.0).1 k.1) counted back) in
        ap (λ (o : Option (List Position)). is_inside p (unwrap_or o [])) ring.there ∙ sym (suspect ring.positions i has name ring.there) ∙ odds

    module _ (sorted : List RingName) (alike : (y : RingName) → odd (is_name y) sorted ≡ odd (is_name y) names)
        (among : (y : RingName) → In y sorted → In y names) (odds : HaveOdd sorted suspects) where
      abbrev told : RingName → Bool
      told name = list_any (λ other. is_name other name) behind

      pub tells_near : (found : List RingName) → found ≡ filter (λ name. list_any (λ other. is_name other name) behind) suspects → TellsInside d p found
      tells_near found e = record {
        rings = λ name c.
            let k = in-filter told name suspects (subst (In name) e (contains_in found name c)) in
            are_there d are_rings p (ray_to p r.x1) names h name
            (among name (contains_in sorted name (odds.among name (in_contains suspects name k.0))));
        odds = λ name i.
            let ring = there (ring_named d name) i in
            ap (odd (is_name name)) e ∙ odd_kept told name suspects
            ∙ ap (λ z. told name && z) (odds.odds name ∙ alike name)
            ∙ by name ring.0 ring.1 (is_inside p ring.0) refl
            ∙ ap (λ (o : Option (List Position)). is_inside p (unwrap_or o [])) (sym ring.1);
      }
        where
          neither : (u v b : Bool) → b ≡ false → (v ≡ true → u ≡ true → b ≡ true) → (u && v) ≡ false
          neither u v b e both = grind (arith, e, both)

          by : (name : RingName) (ring : List Position) → ring_named d name ≡ Some ring → (b : Bool) → is_inside p ring ≡ b
              → (told name && odd (is_name name) names) ≡ is_inside p ring
          by name ring e true k =
              let i = ring_there d name ring e in
              let odd_there = suspect ring i (holding_has ring i k) name e ∙ k in
              let other = odd-some (is_name name) suspects (odds.odds name ∙ alike name ∙ odd_there) in
              let there = in_contains suspects name (subst (λ z. In z suspects) (sym (is_name-true name other.0 other.2)) other.1) in
              ap₂ (λ y z. y && z) (is_told name ring there e k) odd_there ∙ sym k
          by name ring e false k =
              neither (told name) (odd (is_name name) names) (is_inside p ring) k
              (λ v u. sym (ap (λ (o : Option (List Position)). is_inside p (unwrap_or o [])) e) ∙ both_hold name v u) ∙ sym k
