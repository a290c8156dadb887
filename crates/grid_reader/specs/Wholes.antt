-- Whether the coordinates of a topology are written as whole numbers, as the editor takes them.
use Rattle.std.specs.Prelude.{Bool, take, is_ok}
use Rattle.std.specs.List.{flat_map, list_all}
use Rattle.json_spans.specs.Common.{Node, items, whole_of}

-- a whole number: no exponent, and zeros alone after the point (RFC 8259, 6)
abbrev pub is_whole_number : Node → Bool
is_whole_number n = is_ok (whole_of n.bytes)

-- the first two numbers of a position are whole
abbrev pub has_wholes : Node → Bool
has_wholes position = list_all is_whole_number (take 2 (items position))

-- those of all positions of the arcs are whole
abbrev pub all_whole : Node → Bool
all_whole arcs = list_all has_wholes (flat_map items (items arcs))
