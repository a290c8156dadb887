-- Rings along keys of vertices.
use Rattle.std.specs.Prelude.{ℕ, ◌≡◌, ◌≤◌, List, length, IsTrue, Contains}
use Rattle.std.specs.FinMap as table
use Rattle.ring_machine.specs.Common.{are_distinct}
use Rattle.vertex_index.specs.Common.{Placement}
use Rattle.arc_tables.specs.Common.{Edge, edges}

-- a ring can be laid along these keys: at least three different ones, each of a vertex
pub record IsRound (places : Placement) (keys : List ℕ) : Type 0 where
  pub long : 3 ≤ length keys
  pub different : IsTrue (are_distinct keys)
  pub placed : (k : ℕ) → Contains keys k → IsTrue (table.contains_key places k)

-- the edges go round at least three different keys
pub record GoesRound (es : List Edge) : Type 0 where
  pub keys : List ℕ
  pub along : es ≡ edges keys
  pub long : 3 ≤ length keys
  pub different : IsTrue (are_distinct keys)
