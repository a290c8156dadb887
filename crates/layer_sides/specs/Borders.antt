-- The borders of the polygons of a layer, each with the polygons that it bounds and those that hold its right side.
use Rattle.std.specs.Prelude.{ℕ, ◌≡◌, ◌↔◌, List, map, Contains, IsTrue, IsFalse}
use Rattle.std.specs.List.{flat_map, list_all}
use Rattle.std.specs.List.Sorted.{IsStrictlySortedBy}
use Rattle.grid_geometry.specs.Common.{Segment, segment_cmp, conflict}
use Rattle.ring_machine.specs.Common.{segments, is_ring}
use Rattle.layer_sides.specs.Sides.{Polygon, Right, bounded, holders, is_border}

-- a border as it is kept: its segment, the numbers of the polygons that it bounds, and the numbers
-- of those that hold its right side, both ascending
pub record Bordering : Type 0 where
  pub segment : Segment
  pub bounds : List ℕ
  pub right : List ℕ

-- all segments of the polygons, as often as they stand there
abbrev pub segments_in : List Polygon → List Segment
segments_in polygons = flat_map (flat_map segments) polygons

-- all lists of positions are rings, and no two segments conflict, as in a map that opens
pub record IsProperLayer (polygons : List Polygon) : Type 0 where
  pub are_rings : IsTrue (list_all (list_all is_ring) polygons)
  pub apart : (s t : Segment) → Contains (segments_in polygons) s → Contains (segments_in polygons) t
      → IsFalse (conflict s t)

-- the borders of the polygons, ascending and each once, each with the polygons that it bounds
pub record AreBorders (polygons : List Polygon) (borders : List Bordering) : Type 0 where
  pub ascending : IsStrictlySortedBy segment_cmp (map (λ b. b.segment) borders)
  pub segments : (s : Segment) → Contains (map (λ b. b.segment) borders) s ↔ IsTrue (is_border polygons s)
  pub bounding : (b : Bordering) → Contains borders b → b.bounds ≡ bounded polygons b.segment

-- each border has the polygons that hold its right side
abbrev pub AreHeld : List Polygon → List Bordering → Type 0
AreHeld polygons borders =
    (b : Bordering) → Contains borders b → b.right ≡ holders polygons (b.segment, Right)
