-- Where a place of the made text stands in the file.
use Rattle.std.specs.Prelude.{ℕ, ◌+◌, ◌-◌, List, nat_le, nat_lt, ◌&&◌, Bool, find, Option, option_map}
use Rattle.geo_topology.specs.Text.{CopiedPart}

-- the place is in this part
abbrev pub part_has_place : ℕ → CopiedPart → Bool
part_has_place place p = nat_le p.made place && nat_lt (place - p.made) p.len

abbrev pub place_in : ℕ → CopiedPart → ℕ
place_in place p = p.file + (place - p.made)

abbrev pub in_file : List CopiedPart → ℕ → Option ℕ
in_file parts place = option_map (place_in place) (find (part_has_place place) parts)
