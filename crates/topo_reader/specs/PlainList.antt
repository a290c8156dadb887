-- A list of arcs that are written plainly, with white space round each of them.
use Rattle.std.specs.Prelude.{◌≡◌, ℕ, List, [], Bool, true, false, drop, Ok}
use Rattle.grid_geometry.specs.Common.{Position}
use Rattle.json_spans.specs.Common.{Space, has_first, spaces_before}
use Rattle.topo_outline.specs.Common.{each}
use Rattle.topo_reader.specs.Positions.{arc}
use Rattle.topo_reader.specs.Plain.{Follows, PlainArc, nodes_from}

-- the bytes are space, an arc of these positions, space, a comma or the bracket, and what is left
pub record PlainItem (delta : Bool) (bytes : List ℕ) (ps : List Position) (more : Bool)
    (left : List ℕ) : Type 0 where
  pub front : List ℕ
  pub behind : List ℕ
  pub end : List ℕ
  pub before : Space bytes front
  pub arc_is : PlainArc delta front ps behind
  pub after : Space behind end
  pub follows : Follows end more left

-- an item comes first, or nothing is left
abbrev pub Begins : Bool → List ℕ → Type 0
Begins true bytes = has_first (drop (spaces_before bytes) bytes) ≡ true
Begins false bytes = bytes ≡ []

-- the items that are left are read as these arcs, wherever they stand
pub record PlainItems (delta : Bool) (more : Bool) (bytes : List ℕ) (arcs : List (List Position)) :
    Type 0 where
  pub reads : (place : ℕ) → each (arc delta) (nodes_from more place bytes) ≡ Ok arcs
  pub begins : Begins more bytes
