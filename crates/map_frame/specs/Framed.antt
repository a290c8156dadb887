-- A frame as its callers see it.
use Rattle.std.specs.Prelude.{ℕ, List}
use Rattle.ring_machine.specs.Common.{DocumentOf}
use Rattle.edit_records.specs.Common.{LayerTree}

-- the document with a number in the place of each ring, the number of the next new feature, the
-- places of all numbers below it, and below which number each ring can be named without memory
pub record Framed : Type 0 where
  pub doc : DocumentOf ℕ
  pub next : ℕ
  pub places : List LayerTree
  pub room : ℕ
