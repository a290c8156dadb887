use Rattle.kit_words.proofs.Common.{◌≡◌, drop, map, flat_map, fold}
use Rattle.json_spans.specs.Common.{node}
use Rattle.decimal_texts.specs.Common.{all_coordinates, coordinates_of}
use Rattle.grid_reader.specs.Common.{needs_of, needs_with}
use Rattle.grid_reader.proofs.needs.point_needs.Given as goal

abbrev pub invariant-loop-point : goal.invariant-loop-point
invariant-loop-point g l =
    fold needs_with l.needs (flat_map coordinates_of (map node (drop l.point-index l.point-items)))
    ≡ needs_of (all_coordinates (node l.fn.root))
