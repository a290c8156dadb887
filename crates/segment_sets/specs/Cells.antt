-- Segments in the cells of a grid, counted.
use Rattle.std.specs.Prelude.{◌≡◌, ◌≤◌, ◌<◌, ℕ, ◌+◌, ◌-◌, Bool, ◌&&◌, cond, List, [], ◌++◌, ◌∷◌}
use Rattle.std.specs.Prelude.{get_or, length}
use Rattle.std.specs.FinSet as set
use Rattle.grid_geometry.specs.Common.{Segment, box_of}
use Rattle.segment_sets.specs.Candidates.{SegmentSet, segment_is, times_in}
use Rattle.segment_sets.specs.Covers.{Lines, Cover, cover_of, has_cell, within}

-- the cells of a column, each a list of segments
abbrev pub Cells : Type 0
Cells = List (List Segment)

-- the columns of a grid
abbrev pub Columns : Type 0
Columns = List Cells

-- the segments of cell j of a column
abbrev pub cell : Cells → ℕ → List Segment
cell cells j = get_or cells j []

-- the cells of column i of a grid
abbrev pub column : Columns → ℕ → Cells
column columns i = get_or columns i []

-- the cells of a column from low up to below high gain a segment, where the test holds
abbrev pub GainsIf : Bool → Segment → ℕ → ℕ → Cells → Cells → Type 0
GainsIf b s low high old new =
    (j : ℕ) (t : Segment)
    → times_in (cell new j) t
    ≡ times_in (cell old j) t + cond (b && (within low high j && segment_is t s)) 1 0

-- some of those cells gain it, and nothing else changes
abbrev pub GrowsIf : Bool → Segment → ℕ → ℕ → Cells → Cells → Type 0
GrowsIf b s low high old new =
    (j : ℕ) (t : Segment)
    → (times_in (cell old j) t ≤ times_in (cell new j) t)
    × (times_in (cell new j) t
    ≤ times_in (cell old j) t + cond (b && (within low high j && segment_is t s)) 1 0)

-- those cells lose it, where they have it
abbrev pub LosesIf : Bool → Segment → ℕ → ℕ → Cells → Cells → Type 0
LosesIf b s low high old new =
    (j : ℕ) (t : Segment)
    → times_in (cell new j) t
    ≡ times_in (cell old j) t - cond (b && (within low high j && segment_is t s)) 1 0

-- each cell of a cover gains a segment
abbrev pub GainsIn : Segment → Cover → Columns → Columns → Type 0
GainsIn s c old new =
    (i : ℕ) → GainsIf (within c.left c.right i) s c.low c.high (column old i) (column new i)

-- some cells of a cover gain it, and nothing else changes
abbrev pub GrowsIn : Segment → Cover → Columns → Columns → Type 0
GrowsIn s c old new =
    (i : ℕ) → GrowsIf (within c.left c.right i) s c.low c.high (column old i) (column new i)

-- each cell of a cover loses it, where it has it
abbrev pub LosesIn : Segment → Cover → Columns → Columns → Type 0
LosesIn s c old new =
    (i : ℕ) → LosesIf (within c.left c.right i) s c.low c.high (column old i) (column new i)

-- as many columns as are asked for, and in each of them as many cells
pub record IsSquare (side : ℕ) (columns : Columns) : Type 0 where
  pub wide : length columns ≡ side
  pub high : (i : ℕ) → i < side → length (column columns i) ≡ side

-- a cover within a grid of so many columns and rows
pub record IsCover (side : ℕ) (c : Cover) : Type 0 where
  pub across : c.left ≤ c.right
  pub upward : c.low ≤ c.high
  pub right : c.right ≤ side
  pub high : c.high ≤ side

-- a held segment stands once in each cell that its box covers, and nothing else stands there
abbrev pub Stands : Lines → Columns → SegmentSet → Type 0
Stands l columns held =
    (i j : ℕ) (t : Segment)
    → times_in (cell (column columns i) j) t
    ≡ cond (has_cell (cover_of l (box_of t)) i j && set.contains held t) 1 0

-- all segments of the cells of a column, one cell after another
abbrev pub joined : Cells → List Segment
joined [] = []
joined (c ∷ cells) = c ++ joined cells

-- all segments of the cells of a grid, one column after another
abbrev pub every : Columns → List Segment
every [] = []
every (c ∷ columns) = joined c ++ every columns
