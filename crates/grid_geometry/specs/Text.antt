-- How positions and segments are printed.
use Rattle.std.specs.Prelude.{ℕ, List, ◌∷◌, ◌++◌}
use Rattle.std.specs.Fmt.{signed_decimal}
use Rattle.grid_geometry.specs.Position.{Position}
use Rattle.grid_geometry.specs.Segment.{Segment}

-- x and y in decimal, a space between them: "3 -4"
abbrev pub position_text : Position → List ℕ
position_text p = signed_decimal p.x ++ 32 ∷ signed_decimal p.y

-- the lesser end and the greater, a space between them: "0 0 10 -5"
abbrev pub segment_text : Segment → List ℕ
segment_text s = position_text s.lo ++ 32 ∷ position_text s.hi
