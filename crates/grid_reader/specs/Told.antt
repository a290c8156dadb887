-- What is reported of the grid that a map was put on.
use Rattle.std.specs.Prelude.{◌≡◌, ℕ, List, is_some, if◌then◌else◌, Ok}
use Rattle.json_spans.specs.Common.{Node}
use Rattle.topo_outline.specs.Common.{OutlineText, outline}
use Rattle.topo_reader.specs.Common.{root_of}
use Rattle.grid_reader.specs.declared.wants.Wants.{Wants}
use Rattle.grid_reader.specs.declared.told.Told.{Told}
use Rattle.grid_reader.specs.Fine.{FinePosition, fine_arcs}
use Rattle.grid_reader.specs.Grid.{decimals_of_all, decimals_kept, positions_moved, heights}
use Rattle.grid_reader.specs.Wholes.{all_whole}

-- how many decimals the coordinates have, how many are kept, how many positions were rounded, how
-- many had further numbers, and whether all coordinates are written as whole numbers
pub record IsToldOf (wants : Wants) (fine : List (List FinePosition)) (arcs : Node) (told : Told)
    : Type 0 where
  pub decimals : told.decimals ≡ decimals_of_all wants fine
  pub digits : told.digits ≡ decimals_kept wants fine
  pub rounded : told.rounded ≡ positions_moved (decimals_kept wants fine) fine
  pub heights : told.heights ≡ (if wants.drop_heights then heights arcs else 0)
  pub whole : told.whole ≡ all_whole arcs

-- the same of the topology whose root this is
pub record IsToldAt (wants : Wants) (root : Node) (told : Told) : Type 0 where
  pub shape : OutlineText
  pub fine : List (List FinePosition)
  pub outlined : outline root ≡ Ok shape
  pub are : fine_arcs wants (is_some shape.transform) shape.arcs ≡ Ok fine
  pub is : IsToldOf wants fine shape.arcs told

-- and of the one that the bytes are
abbrev pub IsTold : Wants → List ℕ → Told → Type 0
IsTold wants bytes told = IsToldAt wants (root_of bytes) told
