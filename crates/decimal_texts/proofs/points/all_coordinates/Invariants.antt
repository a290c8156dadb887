use Rattle.kit_words.proofs.Common.{◌≡◌, ◌++◌, map, drop, flat_map}
use Rattle.json_spans.specs.Common.{node}
use Rattle.decimal_texts.specs.Common.{coordinates_of, all_coordinates}
use Rattle.decimal_texts.proofs.points.all_coordinates.Given as goal

abbrev pub invariant-loop-geometry : goal.invariant-loop-geometry
invariant-loop-geometry g l =
    map node l.coordinates.items ++ flat_map coordinates_of (map node (drop l.geometry-index l.geometry-items))
    ≡ all_coordinates (node l.fn.root)
