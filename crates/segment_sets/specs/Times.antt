-- How often an index may give a segment for a box.
use Rattle.std.specs.Prelude.{ℕ, Option, None, Some, cond}
use Rattle.grid_geometry.specs.Common.{Segment, Box, box_of, boxes_meet}
use Rattle.segment_sets.specs.Covers.{cover_of, shared}
use Rattle.segment_sets.specs.Frames.{Frame, lines_of}

-- how many times a grid may give a segment for a box: as many as their boxes have common cells
abbrev pub shared_cells : Frame → Segment → Box → ℕ
shared_cells f t rect = shared (cover_of (lines_of f) (box_of t)) (cover_of (lines_of f) rect)

-- an index without cells gives a segment whose box meets the asked one once at most, and no other;
-- one with cells as often as the boxes of both have common cells
abbrev pub times_by : Option Frame → Segment → Box → ℕ
times_by None t rect = cond (boxes_meet (box_of t) rect) 1 0
times_by (Some f) t rect = shared_cells f t rect
