-- Which rings hold a position, by the rings of the segments that count for it.
use Rattle.kit_words.proofs.Common.{◌≡◌, true, refl, sym, ap, ap₂, ◌∙◌, subst, List, [], Option, Some, inl, is_some}
use Rattle.kit_words.proofs.Common.{unwrap_or, AllByRecursion, list_any, list_all}
use Rattle.grid_geometry.specs.Common.{Position, InRange, position_eq, is_inside, Segment, Box, segment_eq, box_of}
use Rattle.grid_geometry.specs.Common.{boxes_meet}
use Rattle.ring_machine.specs.Common.{Document, features, rings, rings_of, is_segment, has, segments, is_ring}
use Rattle.ring_machine.proofs.Common.{In, in_contains, contains_in, any_in, there, in-flat_map, all_in}
use Rattle.ring_machine.proofs.Common.{position_eq-true, in_recursion}
use Rattle.map_frame.specs.declared.names.RingName.{RingName}
use Rattle.feature_exchange.proofs.Common.{end_is}
use Rattle.arc_store.proofs.Common.{end_vertex, in_segments, segment_in}
use Rattle.point_queries.specs.Common.{odd, ray, is_passed, is_name, ring_named, ring_has, HavePassed, TellsInside}
use Rattle.point_queries.proofs.Odds.{odd-alike}
use Rattle.point_queries.proofs.OnBorders.{of_ends}
use Rattle.point_queries.proofs.PassedRings.{odd_ring}
use Rattle.point_queries.proofs.Passing.{passed_meets}
use Rattle.point_queries.proofs.SharedBorders.{named_ring}

-- a ring with a name is one of the document's
pub ring_there : (d : Document) (name : RingName) (ring : List Position) → ring_named d name ≡ Some ring → In ring (rings d)
ring_there d name ring e = let g = named_ring d name ring e in in-flat_map rings_of g.0 ring (features d) g.1 g.3

-- the ends of a segment are in range
low_in_range : (d : Document) → AllByRecursion (AllByRecursion InRange) (rings d) → (s : Segment) → is_segment d s ≡ true → InRange s.lo
low_in_range d h s i =
    let ring = any_in (λ (ring : List Position). has ring s.lo) (rings d) (end_vertex d s.lo s i (end_is s.lo s (inl refl))) in
    let p = any_in (position_eq s.lo) ring.0 ring.2 in
    subst InRange (sym (position_eq-true s.lo p.0 p.2))
    (in_recursion InRange ring.0 p.0 (in_recursion (AllByRecursion InRange) (rings d) ring.0 h ring.1) p.1)

module _ (d : Document) (are_rings : list_all is_ring (rings d) ≡ true) (p : Position) (rect : Box)
    (names : List RingName) (h : HavePassed d p rect names) where
  -- a ring whose segments that count all meet the box
  pub odd_within : (name : RingName) (ring : List Position) → ring_named d name ≡ Some ring
      → ((t : Segment) → In t (segments ring) → is_passed p t ≡ true → boxes_meet (box_of t) rect ≡ true)
      → odd (is_name name) names ≡ is_inside p ring
  odd_within name ring e meet =
      ap (odd (is_name name)) h.listed.appended ∙ h.listed.odds name
      ∙ odd-alike (ring_has d name) (λ s. list_any (segment_eq s) (segments ring)) h.ss
      (λ s j. ap₂ (λ (z : Segment) (o : Option (List Position)). list_any (segment_eq z) (segments (unwrap_or o [])))
      (of_ends d s (in_segments d s (h.passed.among s (in_contains h.ss s j)).0)) e)
      ∙ odd_ring p h.ss (λ s j. (h.passed.among s (in_contains h.ss s j)).1) h.passed.apart ring
      (all_in is_ring (rings d) ring are_rings in_rings)
      (λ t j k. contains_in h.ss t (h.passed.covers t (segment_in d t (in-flat_map segments ring t (rings d) in_rings j)) k (meet t j k)))
    where
      in_rings : In ring (rings d)
      in_rings = ring_there d name ring e

  pub are_there : (name : RingName) → In name names → is_some (ring_named d name) ≡ true
  are_there name i = h.listed.rings name (in_contains h.listed.found name (subst (In name) h.listed.appended i))

-- on the ray to the right, as far as positions are in range, are all that count
pub tells_far : (d : Document) (are_rings : list_all is_ring (rings d) ≡ true)
    → AllByRecursion (AllByRecursion InRange) (rings d) → (p : Position) (names : List RingName)
    → HavePassed d p (ray p) names → TellsInside d p names
tells_far d are_rings range p names h = record {
  rings = λ name c. are_there d are_rings p (ray p) names h name (contains_in names name c);
  odds = λ name i.
      let ring = there (ring_named d name) i in
      odd_within d are_rings p (ray p) names h name ring.0 ring.1
      (λ t j k. passed_meets p t
      (low_in_range d range t (segment_in d t (in-flat_map segments ring.0 t (rings d) (ring_there d name ring.0 ring.1) j))) k)
      ∙ ap (λ o. is_inside p (unwrap_or o [])) (sym ring.1);
}
