-- The segments that bound something in a document, and the paths that mend it.
use Rattle.std.specs.Prelude.{◌≡◌, ◌↔◌, Bool, List, [], Contains, IsTrue, None}
use Rattle.std.specs.List.{list_all, list_any}
use Rattle.std.specs.List.Sorted.{IsStrictlySortedBy}
use Rattle.grid_geometry.specs.Common.{Segment, segment_cmp}
use Rattle.ring_machine.specs.Common.{Document, features, rings, all_segments, least_conflict}
use Rattle.topo_reader.specs.Common.{is_simple}
use Rattle.segment_paths.specs.Common.{PathOfSegment, ArePaths}
use Rattle.walk_mending.specs.Common.{is_bounding}

-- the segment bounds in some polygon of the document
abbrev pub bounds_in : Document → Segment → Bool
bounds_in d s = list_any (λ f. list_any (λ walks. is_bounding walks s) f.polygons) (features d)

-- these are the segments that bound in some polygon of the document, ascending, each once
pub record AreBounding (d : Document) (ss : List Segment) : Type 0 where
  pub ascending : IsStrictlySortedBy segment_cmp ss
  pub all : (s : Segment) → Contains ss s ↔ IsTrue (bounds_in d s)

-- all rings of the document are rings, wherever they begin, and no two segments conflict
pub record NeedsNoMending (d : Document) : Type 0 where
  pub are_rings : IsTrue (list_all is_simple (rings d))
  pub apart : least_conflict (all_segments d) ≡ None

-- the paths are ones of the segments that bound in the document; where no two of these conflict
-- there is none
pub record MendedBy (d : Document) (paths : List PathOfSegment) : Type 0 where
  pub segments : List Segment
  pub bounding : AreBounding d segments
  pub are_paths : ArePaths segments paths
  pub needed : least_conflict segments ≡ None → paths ≡ []
