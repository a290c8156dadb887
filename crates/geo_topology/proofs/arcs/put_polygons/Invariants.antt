use Rattle.kit_words.proofs.Common.{◌≡◌, ◌++◌, length, map, true}
use Rattle.std.specs.List.{flat_map}
use Rattle.json_spans.specs.Common.{node, items, items_left}
use Rattle.geo_topology.specs.Text.{polygon_texts}
use Rattle.geo_topology.proofs.arcs.put_polygons.Given as goal

abbrev pub invariant-loop-polygon : goal.invariant-loop-polygon
invariant-loop-polygon g l =
    (l.made.text.items ++ polygon_texts (length l.rings.items) l.is_first (items_left l.polygon-iterator) ≡ l.initial.made.text.items ++ polygon_texts (length l.initial.rings.items) true (items (node l.fn.polygons)))
    × (l.made.parts ≡ l.initial.made.parts)
    × (map node l.rings.items ++ flat_map items (items_left l.polygon-iterator) ≡ map node l.initial.rings.items ++ flat_map items (items (node l.fn.polygons)))
