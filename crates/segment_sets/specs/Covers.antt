-- The cells that a box covers, in a grid of columns and rows.
use Rattle.std.specs.Prelude.{◌≤◌, ℕ, zero, suc, ◌+◌, ◌-◌, ℤ, pos, negsuc, ◌-ℤ◌, ◌≤ℤ◌, min, Bool}
use Rattle.std.specs.Prelude.{◌&&◌, cond, leb, ltb}
use Rattle.std.specs.Int.{int_div_euclid}
use Rattle.grid_geometry.specs.Common.{Box}

-- into which column each x falls, and into which row each y
pub record Lines : Type 0 where
  pub column : ℤ → ℕ
  pub row : ℤ → ℕ

-- the nearest of the numbers from 0 to below so many
abbrev pub clamped : ℕ → ℤ → ℕ
clamped side (pos n) = min n (side - 1)
clamped side (negsuc n) = 0

-- the column or row of a coordinate, of so many: how many whole cells it lies after the first
-- coordinate, rounded down, clamped to the columns or rows that there are
unfoldable pub line : ℕ → ℤ → ℕ → ℤ → ℕ
line side first size a = clamped side (int_div_euclid (a -ℤ first) (pos size))

-- a greater coordinate never falls into a lesser line
pub record AreMonotone (l : Lines) : Type 0 where
  pub across : (a b : ℤ) → a ≤ℤ b → l.column a ≤ l.column b
  pub upward : (a b : ℤ) → a ≤ℤ b → l.row a ≤ l.row b

-- a block of cells: the columns from left up to below right, the rows from low up to below high
pub record Cover : Type 0 where
  pub left : ℕ
  pub right : ℕ
  pub low : ℕ
  pub high : ℕ

-- the cells that a box covers: from the column and row of its least corner to those of its greatest
abbrev pub cover_of : Lines → Box → Cover
cover_of l r = record {
  left = l.column r.x0;
  right = l.column r.x1 + 1;
  low = l.row r.y0;
  high = l.row r.y1 + 1;
}

-- k is at least the first, and below the end
abbrev pub within : ℕ → ℕ → ℕ → Bool
within from end k = leb from k && ltb k end

-- a cover has the cell in column i and row j
abbrev pub has_cell : Cover → ℕ → ℕ → Bool
has_cell c i j = within c.left c.right i && within c.low c.high j

-- the sum over so many numbers from the first
abbrev pub counted : (ℕ → ℕ) → ℕ → ℕ → ℕ
counted f from zero = 0
counted f from (suc n) = f (from + n) + counted f from n

-- the sum over the cells of a cover
abbrev pub total : (ℕ → ℕ → ℕ) → Cover → ℕ
total f c = counted (λ i. counted (f i) c.low (c.high - c.low)) c.left (c.right - c.left)

-- how many cells of one cover the other has
abbrev pub shared : Cover → Cover → ℕ
shared b c = total (λ i j. cond (has_cell b i j) 1 0) c
