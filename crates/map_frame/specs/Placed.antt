-- What is true of the places of every frame.
use Rattle.std.specs.Prelude.{ℕ, ◌≡◌, ◌<◌, true, IsTrue, List}
use Rattle.ring_machine.specs.Common.{DocumentOf, are_distinct}
use Rattle.edit_records.specs.Common.{LayerTree, AreFormed, numbers_placed, has_place, Fills}

-- the features stand at the places of their numbers; a number that a feature ever had has one place
pub record ArePlaced {R : Type 0} (trees : List LayerTree) (next : ℕ) (d : DocumentOf R)
    : Type 0 where
  pub fills : Fills trees d
  pub formed : AreFormed trees
  pub alone : IsTrue (are_distinct (numbers_placed trees))
  pub placed : (n : ℕ) → n < next → has_place trees n ≡ true
  pub known : (n : ℕ) → has_place trees n ≡ true → n < next
