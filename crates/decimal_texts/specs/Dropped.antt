-- The text of a topology without its lines: each becomes a geometry whose type is null, and what is
-- left keeps its place.
use Rattle.std.specs.Prelude.{ℕ, ◌+◌, ◌-◌, if◌then◌else◌, List, [], ◌∷◌, length, take, replicate, slice_set, codes, Option, Some, None}
use Rattle.std.specs.List.{fold}
use Rattle.json_spans.specs.Common.{Node, members, trimmed}
use Rattle.decimal_texts.specs.declared.geometries.Shape.TheVariants as shape
use Rattle.decimal_texts.specs.Geometries.{says, value_in, all_geometries}

-- the text with these bytes in the place of as many from place n on, up to its end
unfoldable pub overwritten : ℕ → List ℕ → List ℕ → List ℕ
overwritten n [] text = text
overwritten n (x ∷ xs) text = overwritten (n + 1) xs (slice_set text n x)

abbrev pub end_of : Node → ℕ
end_of n = n.at_byte + length n.bytes

abbrev pub behind : Option ℕ → ℕ → Option (ℕ × ℕ)
behind None to = None
behind (Some from) to = Some (from, to)

-- from where to where the first member of this name stands, with one comma: up to the next member,
-- or as the last one from the end of the one before it
unfoldable pub range_of : List ℕ → Option ℕ → List (Node × Node) → Option (ℕ × ℕ)
range_of name before [] = None
range_of name before (m ∷ []) = if says name m.0 then behind before (end_of m.1) else None
range_of name before (m ∷ next ∷ ms) =
    if says name m.0 then Some (m.0.at_byte, next.0.at_byte)
    else range_of name (Some (end_of m.1)) (next ∷ ms)

-- spaces in a range of the text
abbrev pub blanked : Option (ℕ × ℕ) → List ℕ → List ℕ
blanked None text = text
blanked (Some r) text = overwritten r.0 (replicate (r.1 - r.0) 32) text

-- null, and spaces, in the place of a value, up to its end
abbrev pub nulled : List Node → List ℕ → List ℕ
nulled [] text = text
nulled (n ∷ ns) text =
    overwritten n.at_byte (take (length n.bytes) (codes "null"))
    (overwritten n.at_byte (replicate (length n.bytes) 32) text)

-- the text without the type and the arcs of this line
abbrev pub without_line : List ℕ → Node → List ℕ
without_line text n =
    nulled (value_in (codes "type") n) (blanked (range_of (codes "arcs") None (members n)) text)

-- the whole text as a value, without the spaces round it (RFC 8259, 2)
abbrev pub whole_value : List ℕ → Node
whole_value bytes = trimmed (record { at_byte = 0; bytes = bytes })

-- the lines of a topology (TopoJSON 1.0, 2.2.3 and 2.2.4)
abbrev pub line_geometries : Node → List Node
line_geometries = all_geometries shape.Lines

-- the text without its lines
abbrev pub without_lines : List ℕ → List ℕ
without_lines bytes = fold without_line bytes (line_geometries (whole_value bytes))
