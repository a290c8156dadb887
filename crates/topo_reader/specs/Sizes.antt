-- The lengths of the arcs, added over all rings that use them.
use Rattle.std.specs.Prelude.{ℕ, List, length, sum_by}
use Rattle.topo_reader.specs.Arcs.{Arc}

abbrev pub ring_size : List Arc → ℕ
ring_size uses = sum_by length uses

abbrev pub polygon_size : List (List Arc) → ℕ
polygon_size rings = sum_by ring_size rings

abbrev pub feature_size : List (List (List Arc)) → ℕ
feature_size polygons = sum_by polygon_size polygons

-- by feature, polygon and ring
abbrev pub size : List (List (List (List Arc))) → ℕ
size features = sum_by feature_size features
