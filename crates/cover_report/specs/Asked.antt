-- What is asked of a report.
use Rattle.std.specs.Prelude.{ℕ, List, map, Option}
use Rattle.ring_machine.specs.Common.{Text}
use Rattle.cover_report.specs.declared.asked.Asked.{Asked}

-- the names of the layers that are looked at, none for all; the bounds of the width and of the area of a face that is told;
-- and how many lines of one kind there are at the most
pub record Wants : Type 0 where
  pub layers : List Text
  pub width : Option ℕ
  pub area : Option ℕ
  pub most : ℕ

abbrev pub view_asked : Asked → Wants
view_asked asked = record {
  layers = map (λ name. name.now) asked.layers.now;
  width = asked.width;
  area = asked.area;
  most = asked.most;
}
