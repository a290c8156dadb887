-- The positions of the arcs in units of 10^-24: the first fault in the order of the text, or all of
-- them (TopoJSON 1.0, 2.1.1 to 2.1.3).
use Rattle.std.specs.Prelude.{ℕ, ◌-◌, ◌^◌, ◌&&◌, ℤ, pos, ◌+ℤ◌, unsigned_abs, List, [], ◌∷◌, Bool, true, false, nat_le, Option, Some, None, Result, Ok, Err}
use Rattle.json_spans.specs.Common.{Node, items, kind_of}
use Rattle.topo_outline.specs.Common.{is_list, is_number, Fault, not_whole, out_of_range, bad_position, ◌>>=◌, each}
use Rattle.topo_outline.specs.Common.{demand}
use Rattle.topo_reader.specs.Common.{has_two}
use Rattle.decimal_texts.specs.Common.{Parts, parts_of, fine}
use Rattle.grid_reader.specs.declared.wants.Wants.{Wants}

-- a position, in units of 10^-24
pub record FinePosition : Type 0 where
  pub x : ℤ
  pub y : ℤ

abbrev pub fine_origin : FinePosition
fine_origin = record { x = pos 0; y = pos 0 }

-- the greatest absolute value of a coordinate is 10^12, on a grid 10^finer times as fine
abbrev pub fits_finer_grid : ℕ → ℤ → Bool
fits_finer_grid finer z = nat_le (unsigned_abs z) (10 ^ (36 - finer))

-- a number, added to the one before it
abbrev pub fine_sum : ℕ → ℤ → ℕ → Option Parts → Result ℤ Fault
fine_sum finer before place None = Err (out_of_range place)
fine_sum finer before place (Some p) =
    demand (fits_finer_grid finer (before +ℤ fine p)) (out_of_range place) (Ok (before +ℤ fine p))

-- a coordinate, by its number
abbrev pub fine_coordinate : ℕ → ℤ → Node → Result ℤ Fault
fine_coordinate finer before n =
    demand (is_number (kind_of n.bytes)) (not_whole n.at_byte)
    (fine_sum finer before n.at_byte (parts_of n.bytes))

-- the items of a list of exactly two, or the first two where further ones are left out
abbrev pub first_two_of : Bool → List Node → Option (Node × Node)
first_two_of drop_heights (a ∷ b ∷ []) = Some (a, b)
first_two_of true (a ∷ b ∷ c ∷ ns) = Some (a, b)
first_two_of _ _ = None

-- x, then y
abbrev pub fine_pair_of : ℕ → FinePosition → Node → Node → Result FinePosition Fault
fine_pair_of finer before a b = do
  x ← fine_coordinate finer before.x a
  y ← fine_coordinate finer before.y b
  Ok (record { x = x; y = y })

abbrev pub fine_pair : ℕ → FinePosition → ℕ → Option (Node × Node) → Result FinePosition Fault
fine_pair finer before place None = Err (bad_position place)
fine_pair finer before place (Some p) = fine_pair_of finer before p.0 p.1

-- a list of two numbers (TopoJSON 1.0, 2.1.1)
unfoldable pub fine_position : Wants → FinePosition → Node → Result FinePosition Fault
fine_position wants before n =
    demand (is_list n) (bad_position n.at_byte)
    (fine_pair wants.finer before n.at_byte (first_two_of wants.drop_heights (items n)))

-- with deltas each position is the sum of the pairs so far (TopoJSON 1.0, 2.1.2)
abbrev pub before_next_fine : Bool → FinePosition → FinePosition
before_next_fine true p = p
before_next_fine false p = fine_origin

unfoldable pub fine_positions : Wants → Bool → FinePosition → List Node
    → Result (List FinePosition) Fault
fine_positions wants delta before [] = Ok []
fine_positions wants delta before (n ∷ ns) = do
  p ← fine_position wants before n
  ps ← fine_positions wants delta (before_next_fine delta p) ns
  Ok (p ∷ ps)

-- a list of at least two positions (TopoJSON 1.0, 2.1.3)
unfoldable pub fine_arc : Wants → Bool → Node → Result (List FinePosition) Fault
fine_arc wants delta n =
    demand (is_list n && has_two (items n)) (bad_position n.at_byte)
    (fine_positions wants delta fine_origin (items n))

abbrev pub fine_arcs : Wants → Bool → Node → Result (List (List FinePosition)) Fault
fine_arcs wants delta n = each (fine_arc wants delta) (items n)
