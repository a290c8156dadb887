-- Which documents have texts that are read as they were.
use Rattle.std.specs.Prelude.{◌<◌, ◌^◌, IsTrue}
use Rattle.std.specs.List.{AllByRecursion, list_all}
use Rattle.grid_geometry.specs.Common.{InRange}
use Rattle.ring_machine.specs.Common.{is_ring, Document, rings, size, WellFormed}
use Rattle.topo_outline.specs.Common.{KeepsTexts}

-- The document is well formed, its texts are such as opening keeps, each list of positions is a
-- ring of positions in range, and the number of its positions fits 63 bits.
pub record IsWritable (d : Document) : Type 0 where
  pub formed : WellFormed d
  pub keeps : KeepsTexts d
  pub are_rings : IsTrue (list_all is_ring (rings d))
  pub in_range : AllByRecursion (AllByRecursion InRange) (rings d)
  pub small : size d < 2 ^ 63
