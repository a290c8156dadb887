-- The positions of the arcs: the first fault in the order of the text, or all of them.
use Rattle.std.specs.Prelude.{ℕ, ◌&&◌, ℤ, ◌+ℤ◌, unsigned_abs, List, [], ◌∷◌, Bool, true, false, nat_le, if◌then◌else◌, Option, Some, None, Result, Ok, Err}
use Rattle.json_spans.specs.Common.{Node, items, whole_of}
use Rattle.json_spans.specs.declared.number.NotWhole.{NotWhole}
use Rattle.json_spans.specs.declared.number.NotWhole.TheVariants.{Form, Huge}
use Rattle.grid_geometry.specs.Common.{Position}
pub use Rattle.topo_reader.specs.Arcs.{origin}
use Rattle.topo_outline.specs.Common.{is_list, Fault, not_whole, out_of_range, bad_position, ◌>>=◌, each}

-- the greatest absolute value of a coordinate is 10^12
abbrev pub is_within : ℤ → Bool
is_within z = nat_le (unsigned_abs z) 1000000000000

-- a number that is not whole, or far out of range
abbrev pub fault_of : ℕ → NotWhole → Fault
fault_of place Form = not_whole place
fault_of place Huge = out_of_range place

-- a whole number, added to the one before it
abbrev pub summed : ℤ → ℕ → Result ℤ NotWhole → Result ℤ Fault
summed before place (Ok z) =
    if is_within (before +ℤ z) then Ok (before +ℤ z) else Err (out_of_range place)
summed before place (Err e) = Err (fault_of place e)

-- a coordinate, by its number
abbrev pub coordinate : ℤ → Node → Result ℤ Fault
coordinate before n = summed before n.at_byte (whole_of n.bytes)

-- the two items of a list of exactly two
abbrev pub two_of : List Node → Option (Node × Node)
two_of (a ∷ b ∷ []) = Some (a, b)
two_of _ = None

-- x, then y
abbrev pub pair_of : Position → Node → Node → Result Position Fault
pair_of before a b = do
  x ← coordinate before.x a
  y ← coordinate before.y b
  Ok (record { x = x; y = y })

abbrev pub pair : Position → ℕ → Option (Node × Node) → Result Position Fault
pair before place None = Err (bad_position place)
pair before place (Some p) = pair_of before p.0 p.1

-- a list of exactly two numbers (TopoJSON 1.0, 2.1.1)
unfoldable pub position : Position → Node → Result Position Fault
position before n =
    if is_list n then pair before n.at_byte (two_of (items n)) else Err (bad_position n.at_byte)

-- with deltas each position is the sum of the pairs so far (TopoJSON 1.0, 2.1.2)
abbrev pub before_next : Bool → Position → Position
before_next true p = p
before_next false p = origin

unfoldable pub positions : Bool → Position → List Node → Result (List Position) Fault
positions delta before [] = Ok []
positions delta before (n ∷ ns) = do
  p ← position before n
  ps ← positions delta (before_next delta p) ns
  Ok (p ∷ ps)

abbrev pub has_two : List Node → Bool
has_two [] = false
has_two (a ∷ []) = false
has_two (a ∷ b ∷ ns) = true

-- a list of at least two positions (TopoJSON 1.0, 2.1.3)
unfoldable pub arc : Bool → Node → Result (List Position) Fault
arc delta n =
    if is_list n && has_two (items n)
    then positions delta origin (items n)
    else Err (bad_position n.at_byte)

abbrev pub arcs : Bool → Node → Result (List (List Position)) Fault
arcs delta n = each (arc delta) (items n)
