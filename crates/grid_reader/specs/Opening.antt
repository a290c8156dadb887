-- What a topology means on the grid that is asked for.
use Rattle.std.specs.Prelude.{◌≡◌, ℕ, ◌==◌, ◌||◌, Bool, true, false, not, List, codes, is_some, Result, Ok}
use Rattle.std.specs.List.{list_any}
use Rattle.json_spans.specs.Common.{Node}
use Rattle.ring_machine.specs.Common.{Document}
use Rattle.topo_outline.specs.Common.{Fault, unsupported, ◌>>=◌, demand, Piece, text, LayerText, OutlineText, outline}
use Rattle.topo_reader.specs.Common.{Arc, Opened, walks_read, IsWalk, ReadsWith}
use Rattle.grid_reader.specs.declared.wants.Wants.{Wants}
use Rattle.grid_reader.specs.Fine.{FinePosition, fine_arcs}
use Rattle.grid_reader.specs.Grid.{arcs_on, finer_by}
use Rattle.grid_reader.specs.Transform.{transform_on}

-- ---- the first fault, or what was read

abbrev pub is_kept_text : Piece → Bool
is_kept_text (text t) = true
is_kept_text _ = false

-- a point, or several points (TopoJSON 1.0, 2.2.1 and 2.2.2)
abbrev pub has_text_in : LayerText → Bool
has_text_in l = list_any is_kept_text l.pieces

abbrev pub has_points : List LayerText → Bool
has_points layers = list_any has_text_in layers

-- points are kept as they stand, so the grid must stay as it is, or they lie on it already
abbrev pub demand_points_lie : {A : Type 0} → Bool → ℕ → List LayerText → Result A Fault
    → Result A Fault
demand_points_lie lie finer layers r =
    demand ((finer == 0) || lie || not (has_points layers)) (unsupported (codes "Point")) r

-- a topology with this outline whose arcs have these positions
abbrev pub opened_on : Wants → OutlineText → List (List FinePosition) → Result Opened Fault
opened_on wants shape fine = do
  transform ← transform_on (finer_by wants fine) shape.transform
  polygons ← demand_points_lie wants.points_lie (finer_by wants fine) shape.layers
      (walks_read (arcs_on wants fine) shape.layers)
  Ok (record {
    transform = transform;
    layers = shape.layers;
    members = shape.members;
    polygons = polygons;
  })

-- the topology whose root this is, on the grid that is asked for
abbrev pub grid_opening : Wants → Node → Result Opened Fault
grid_opening wants root = do
  shape ← outline root
  fine ← fine_arcs wants (is_some shape.transform) shape.arcs
  opened_on wants shape fine

-- ---- what bytes mean

-- the arcs have these positions, and on the grid those
pub record AreOnGrid (wants : Wants) (fine : List (List FinePosition)) (delta : Bool) (n : Node)
    (arcs : List Arc) : Type 0 where
  pub are : fine_arcs wants delta n ≡ Ok fine
  pub on_grid : arcs ≡ arcs_on wants fine

-- the bytes mean a document of walks whose positions are put on the grid that is asked for; its
-- transform is that of the grid, and all else is as it stands
pub record ReadsOnGrid (wants : Wants) (bytes : List ℕ) (d : Document) : Type 0 where
  pub fine : List (List FinePosition)
  pub before : Document
  pub reads : ReadsWith (AreOnGrid wants fine) IsWalk bytes before
  pub transform : transform_on (finer_by wants fine) before.transform ≡ Ok d.transform
  pub same : d ≡ record before { transform = d.transform }
