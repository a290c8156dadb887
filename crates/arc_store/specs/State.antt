-- A map as its callers see it.
use Rattle.std.specs.Prelude.{ℕ, List, Option}
use Rattle.ring_machine.specs.Common.{Document}
use Rattle.edit_records.specs.Common.{LayerTree, Record}
use Rattle.segment_index.specs.Common.{Frame}

-- the document, the number of the next new feature, the places of all numbers below it, how many
-- tests of two segments the last edit made, the frame of the cells of the index, where it has cells,
-- and what takes the last edit back, where it changed the map and was not asked for since
pub record State : Type 0 where
  pub doc : Document
  pub next : ℕ
  pub places : List LayerTree
  pub tests : ℕ
  pub cells : Option Frame
  pub last : Option Record
