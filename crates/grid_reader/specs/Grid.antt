-- The grid that positions are put on: how many decimals it has, and where they stand on it.
use Rattle.std.specs.Prelude.{ℕ, zero, suc, ◌+◌, ◌-◌, ◌*◌, ◌^◌, ◌||◌, ◌==◌, ℤ, pos, ◌*ℤ◌, unsigned_abs, Bool, nat_le, if◌then◌else◌, List, [], ◌∷◌, map, length}
use Rattle.std.specs.List.{flat_map, fold, filter}
use Rattle.json_spans.specs.Common.{Node, items}
use Rattle.grid_geometry.specs.Common.{Position, position}
use Rattle.topo_reader.specs.Common.{Arc}
use Rattle.decimal_texts.specs.Common.{decimals, rounded, is_rounded}
use Rattle.grid_reader.specs.declared.wants.Wants.{Wants}
use Rattle.grid_reader.specs.Fine.{FinePosition}

-- ---- how many decimals

abbrev pub xy : FinePosition → List ℤ
xy p = p.x ∷ p.y ∷ []

abbrev pub coordinates : List (List FinePosition) → List ℤ
coordinates arcs = flat_map (flat_map xy) arcs

abbrev pub greater : ℕ → ℕ → ℕ
greater a b = if nat_le a b then b else a

-- the greatest of the numbers, and 0 where there is none
abbrev pub greatest : List ℕ → ℕ
greatest ns = fold greater 0 ns

-- the greatest of a number and of those that the positions' coordinates have
abbrev pub greatest_from : (ℤ → ℕ) → ℕ → List FinePosition → ℕ
greatest_from f n ps = fold greater n (map f (flat_map xy ps))

-- the most decimals that a coordinate has
abbrev pub most_decimals : List (List FinePosition) → ℕ
most_decimals arcs = greatest (map decimals (coordinates arcs))

-- how far the furthest coordinate is from 0
abbrev pub furthest : List (List FinePosition) → ℕ
furthest arcs = greatest (map unsigned_abs (coordinates arcs))

-- the greatest number of decimals, up to the last argument, with which so far a coordinate is within
-- 10^12, on a grid 10^finer times as fine again
unfoldable pub fitting : ℕ → ℕ → ℕ → ℕ
fitting finer far zero = 0
fitting finer far (suc k) =
    if nat_le (far * 10 ^ (suc k)) (10 ^ (36 - finer)) then suc k else fitting finer far k

abbrev pub smaller : ℕ → ℕ → ℕ
smaller a b = if nat_le a b then a else b

-- how many decimals are kept where a coordinate is so far from 0, and one has so many: as many as there
-- are, as are asked for, and as fit
abbrev pub digits_fitting : Wants → ℕ → ℕ → ℕ
digits_fitting wants far most = fitting wants.finer far (smaller wants.digits most)

-- the most decimals of all, where a coordinate of the arcs has at most so many: those of points count
-- too, but where the arcs have whole numbers, since then their grid stays, and points as they stand
abbrev pub decimals_with : Wants → ℕ → ℕ
decimals_with wants most = if most == 0 then 0 else greater wants.points.decimals most

abbrev pub decimals_of_all : Wants → List (List FinePosition) → ℕ
decimals_of_all wants arcs = decimals_with wants (most_decimals arcs)

-- how far the furthest coordinate of arcs and points is from 0
abbrev pub furthest_of_all : Wants → List (List FinePosition) → ℕ
furthest_of_all wants arcs = greater wants.points.furthest (furthest arcs)

-- how many decimals are kept: those of the arcs alone, or more where arcs and points fit with more; so
-- no point makes the grid coarser
abbrev pub decimals_kept : Wants → List (List FinePosition) → ℕ
decimals_kept wants arcs =
    greater (digits_fitting wants (furthest arcs) (most_decimals arcs))
    (digits_fitting wants (furthest_of_all wants arcs) (decimals_of_all wants arcs))

-- ---- the positions

-- rounded to so many decimals, on a grid 10^finer times as fine as these
abbrev pub position_on_grid : ℕ → ℕ → FinePosition → Position
position_on_grid digits finer p =
    position (rounded digits p.x *ℤ pos (10 ^ finer)) (rounded digits p.y *ℤ pos (10 ^ finer))

-- the arcs of a map on the grid that is asked for
abbrev pub arcs_on : Wants → List (List FinePosition) → List Arc
arcs_on wants arcs = map (map (position_on_grid (decimals_kept wants arcs) wants.finer)) arcs

-- by which power of ten the grid is finer than the one of the text
abbrev pub finer_by : Wants → List (List FinePosition) → ℕ
finer_by wants arcs = decimals_kept wants arcs + wants.finer

-- ---- what is told of it

-- whether rounding moves the position
abbrev pub is_moved : ℕ → FinePosition → Bool
is_moved digits p = is_rounded digits p.x || is_rounded digits p.y

-- how many positions of the arcs rounding moves
abbrev pub positions_moved : ℕ → List (List FinePosition) → ℕ
positions_moved digits arcs = length (filter (is_moved digits) (flat_map (λ a. a) arcs))

-- a third number, or further ones
abbrev pub has_further : Node → Bool
has_further n = nat_le 3 (length (items n))

-- how many positions of the arcs have further numbers
abbrev pub heights : Node → ℕ
heights arcs = length (filter has_further (flat_map items (items arcs)))
