-- The text of a point, or of several, that is kept in a document (TopoJSON 1.0, 2.2.1 and 2.2.2), as a geometry
-- (RFC 7946, 3.1.2 and 3.1.3). Points have numbers of their own, from 0 in the order of the map's text.
use Rattle.std.specs.Prelude.{ℕ, zero, suc, ℤ, ◌^◌, nat_le, unsigned_abs, Bool, not, if◌then◌else◌, List, [], ◌∷◌, map, filter, find, codes, Option, Some, None}
use Rattle.std.specs.Prelude.{option_map, Result, Ok, Err}
use Rattle.json_spans.specs.Common.{Node, items, members, whole_of}
use Rattle.json_spans.specs.declared.number.NotWhole.{NotWhole}
use Rattle.json_spans.specs.declared.number.NotWhole.TheVariants as is_not
use Rattle.ring_machine.specs.Common.{Text, Member, Head}
use Rattle.topo_outline.specs.Common.{are_lists, bad_member, is_list, unquoted}
use Rattle.decimal_texts.specs.Common.{has_type, says}
use Rattle.map_text.specs.Common.{list_text}
use Rattle.grid_decimals.specs.Common.{x_text, y_text}
use Rattle.geo_features.specs.Style.{Style}
use Rattle.geo_features.specs.Faults.{GeoFault, of_map, point_not_whole, point_out_of_range, ◌>>=◌, each, each_at, demand}
use Rattle.geo_features.specs.Names.{is_one_of}

-- ---- one position

-- a coordinate of point n, at this place of its text: a whole number of the grid
abbrev pub number_from : ℕ → ℕ → Result ℤ NotWhole → Result ℤ GeoFault
number_from n place (Ok z) = demand (nat_le (unsigned_abs z) (10 ^ 12)) (point_out_of_range n place) (Ok z)
number_from n place (Err is_not.Form) = Err (point_not_whole n place)
number_from n place (Err is_not.Huge) = Err (point_out_of_range n place)

abbrev pub point_number : ℕ → Node → Result ℤ GeoFault
point_number n coordinate = number_from n coordinate.at_byte (whole_of coordinate.bytes)

-- a number of a position, by its place: the first and the second where they lie on the map, others as they stand
abbrev pub number_at : Style → ℕ → ℕ → Node → Result Text GeoFault
number_at s n zero c = do
  x ← point_number n c
  Ok (x_text s.grid s.decimals x)
number_at s n (suc zero) c = do
  y ← point_number n c
  Ok (y_text s.grid s.decimals y)
number_at s n (suc (suc i)) c = Ok c.bytes

unfoldable pub point_position : Style → ℕ → Node → Result Text GeoFault
point_position s n position = do
  numbers ← each_at (number_at s n) 0 (items position)
  Ok (list_text numbers)

-- ---- the coordinates

-- one position, or a list of several
abbrev pub positions_text : Style → ℕ → Bool → Node → Result Text GeoFault
positions_text s n is_one value =
    if is_one then point_position s n value else (do
      positions ← each (point_position s n) (items value)
      Ok (list_text positions))

-- on the map; as they stand, where there is no transform
abbrev pub placed_text : Style → ℕ → Bool → Node → Result Text GeoFault
placed_text s n is_one value =
    if s.grid.is_given then positions_text s n is_one value else Ok value.bytes

-- a position is a list, and several are a list of lists
abbrev pub are_positions : Bool → Node → Bool
are_positions is_one value = if is_one then is_list value else are_lists value

-- the coordinates of point n
abbrev pub coordinates_from : Style → ℕ → Bool → Option (Node × Node) → Result Text GeoFault
coordinates_from s n is_one None = Err (of_map (bad_member (codes "coordinates")))
coordinates_from s n is_one (Some m) =
    demand (are_positions is_one m.1) (of_map (bad_member (unquoted m.0.bytes))) (placed_text s n is_one m.1)

-- ---- its parts

abbrev pub point_node : Text → Node
point_node t = record { at_byte = 0; bytes = t }

-- the member of this name
abbrev pub named : Text → Text → Option (Node × Node)
named name t = find (λ m. says name m.0) (members (point_node t))

abbrev pub is_one_point : Text → Bool
is_one_point t = has_type (codes "Point") (point_node t)

unfoldable pub point_coordinates : Style → ℕ → Text → Result Text GeoFault
point_coordinates s n t = coordinates_from s n (is_one_point t) (named (codes "coordinates") t)

-- the value of `type`
abbrev pub point_type : Text → Text
point_type t = if is_one_point t then codes "\"Point\"" else codes "\"MultiPoint\""

-- the members that a point has beside these
abbrev pub known_of_point : List Text
known_of_point =
    codes "type" ∷ codes "coordinates" ∷ codes "id" ∷ codes "properties" ∷ codes "bbox" ∷ []

abbrev pub member_of_pair : Node × Node → Member
member_of_pair m = record { name = m.0.bytes; value = m.1.bytes }

-- its id, its properties, and the other members
abbrev pub point_head : Text → Head
point_head t = record {
  id = option_map (λ m. m.1.bytes) (named (codes "id") t);
  properties = option_map (λ m. m.1.bytes) (named (codes "properties") t);
  members = filter (λ m. not (is_one_of known_of_point m.name)) (map member_of_pair (members (point_node t)));
}
