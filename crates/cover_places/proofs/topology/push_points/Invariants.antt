use Rattle.kit_words.proofs.Common.{◌≡◌, ◌++◌, map, take, codes}
use Rattle.map_text.specs.Common.{commas}
use Rattle.cover_places.specs.Places.{place_seen}
use Rattle.cover_places.specs.Text.{point_text}
use Rattle.cover_places.proofs.topology.push_points.Given as goal

-- the points so far
abbrev pub invariant-loop-index : goal.invariant-loop-index
invariant-loop-index g l =
    l.text.items ≡ (l.fn.text.items ++ codes "{\"type\":\"GeometryCollection\",\"geometries\":[")
    ++ commas (map point_text (map place_seen (take l.index l.places)))
