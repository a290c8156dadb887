-- In which cell of a directory a segment stands, and which cells a call for candidates looks at.
use Rattle.std.specs.Prelude.{◌≡◌, ◌≤◌, ℕ, ◌+◌, ◌-◌, ◌%◌, ◌^◌, Bool, ◌&&◌, cond, leb, List, Option, Some, None, set}
use Rattle.grid_geometry.specs.Common.{Segment, Box, box_of}
use Rattle.segment_sets.specs.Candidates.{times_in}
use Rattle.segment_sets.specs.Cells.{Cells, Columns, cell, column}
use Rattle.segment_sets.specs.Covers.{Lines, Cover, line}
use Rattle.segment_sets.specs.declared.region.Region.{Region}

-- the columns and rows of a region, whose cells have powers of two as sides
abbrev pub lines_in : Region → Lines
lines_in r = record {
  column = line r.columns r.extent.x0 (2 ^ (r.wide % 64));
  row = line r.rows r.extent.y0 (2 ^ (r.high % 64));
}

-- a box reaches at most one column and one row further than its least corner
abbrev pub is_short : Lines → Box → Bool
is_short l b = leb (l.column b.x1) (l.column b.x0 + 1) && leb (l.row b.y1) (l.row b.y0 + 1)

-- the home of a box that reaches no further: the row and the column of its least corner. A directory
-- has a strip for each row, in the place of the columns of a grid
abbrev pub home_of : Lines → Box → Option (ℕ × ℕ)
home_of l b = cond (is_short l b) (Some (l.row b.y0, l.column b.x0)) None

-- the cells that can be the home of a box which meets another, by their strips and their places there
abbrev pub block_of : Lines → Box → Cover
block_of l b = record {
  left = l.row b.y0 - 1;
  right = l.row b.y1 + 1;
  low = l.column b.x0 - 1;
  high = l.column b.x1 + 1;
}

-- each segment that stands in a cell has its home there
abbrev pub AreAtHome : Lines → Columns → Type 0
AreAtHome l strips =
    (i j : ℕ) (t : Segment) → 1 ≤ times_in (cell (column strips i) j) t
    → home_of l (box_of t) ≡ Some (i, j)

-- one cell of a strip changes so, and the others stay
abbrev pub ChangesAt : ℕ → (List Segment → List Segment → Type 0) → Cells → Cells → Type 0
ChangesAt j change old new = (c : List Segment) × (new ≡ set old j c) × change (cell old j) c
