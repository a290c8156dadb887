-- How the points of a topology are put on a grid: what they need of it, and how many decimals it keeps where it is
-- another one than that of the text.
use Rattle.std.specs.Prelude.{ℕ, ◌==◌, if◌then◌else◌, true, is_some, List, Option, Some, None, Result, Ok, Err}
use Rattle.json_spans.specs.Common.{Node}
use Rattle.topo_outline.specs.Common.{Fault, OutlineText, outline}
use Rattle.topo_reader.specs.Common.{root_of}
use Rattle.decimal_texts.specs.Common.{all_coordinates}
use Rattle.grid_reader.specs.declared.kept_digits.PointGrid.{PointGrid}
use Rattle.grid_reader.specs.declared.needs.PointNeeds.{PointNeeds}
use Rattle.grid_reader.specs.declared.wants.Wants.{Wants}
use Rattle.grid_reader.specs.Fine.{FinePosition, fine_arcs}
use Rattle.grid_reader.specs.Grid.{decimals_kept, finer_by}
use Rattle.grid_reader.specs.Needs.{needs_of, no_needs}
use Rattle.grid_reader.specs.Opening.{has_points, opened_on}

-- what is made of what was read, or this where it was not
abbrev pub where_read : {A B : Type 0} → B → (A → B) → Result A Fault → B
where_read none f (Ok a) = f a
where_read none f (Err e) = none

-- the same is asked for, and the points lie on the grid
abbrev pub with_points_lying : Wants → Wants
with_points_lying wants = record wants { points_lie = true }

-- of a topology with this outline whose arcs have these positions: how many decimals are kept, where
-- the grid is not that of the text, and where all else is read on it
abbrev pub digits_kept : Wants → OutlineText → List (List FinePosition) → Option ℕ
digits_kept wants shape fine =
    if finer_by wants fine == 0 then None
    else where_read None (λ o. Some (decimals_kept wants fine)) (opened_on (with_points_lying wants) shape fine)

-- the same of one with this outline
abbrev pub digits_at : Wants → OutlineText → Option ℕ
digits_at wants shape =
    where_read None (digits_kept wants shape) (fine_arcs wants (is_some shape.transform) shape.arcs)

-- ---- with what points need

-- the same is asked for, and points that need so much count
abbrev pub with_points : Wants → PointNeeds → Wants
with_points wants needs = record wants { points = needs }

abbrev pub no_grid : PointGrid
no_grid = record { needs = no_needs; digits = None }

-- how points that need so much are put on the grid
abbrev pub grid_for : Wants → OutlineText → PointNeeds → PointGrid
grid_for wants shape needs =
    record { needs = needs; digits = digits_at (with_points wants needs) shape }

-- how those of a topology with this root and outline are, where it has any
abbrev pub grid_at : Wants → Node → OutlineText → PointGrid
grid_at wants root shape =
    if has_points shape.layers then grid_for wants shape (needs_of (all_coordinates root)) else no_grid

abbrev pub grid_in : Wants → Node → PointGrid
grid_in wants root = where_read no_grid (grid_at wants root) (outline root)

-- and how those of the topology that the bytes are
abbrev pub point_grid : Wants → List ℕ → PointGrid
point_grid wants bytes = grid_in wants (root_of bytes)
