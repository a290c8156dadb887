use Rattle.kit_words.proofs.Common.{◌≡◌, ◌++◌, codes, map, take}
use Rattle.topo_reader.specs.Common.{polygon_positions}
use Rattle.map_text.specs.Common.{commas}
use Rattle.geo_features.specs.Rings.{polygon_text}
use Rattle.geo_features.specs.Seen.{view_style}
use Rattle.geo_features.proofs.style.Style.push_polygons.Given as goal

abbrev pub invariant-loop-i : goal.invariant-loop-i
invariant-loop-i g l = l.text.items ≡ (l.fn.text.items ++ codes "[") ++ commas (map (polygon_text (view_style l.self)) (map polygon_positions (take l.i l.polygons)))
