-- What the code holds, seen as paths.
use Rattle.std.specs.Prelude.{List, map}
use Rattle.segment_paths.specs.declared.path.SegmentPath.{SegmentPath}
use Rattle.segment_paths.specs.Paths.{PathOfSegment}

-- a segment with what is put into it
abbrev pub path_of_segment : {A : Type 0} → SegmentPath A → PathOfSegment
path_of_segment path = (path.segment, path.inner.items)

-- the paths in their order
abbrev pub paths_seen : {A : Type 0} → List (SegmentPath A) → List PathOfSegment
paths_seen paths = map path_of_segment paths
