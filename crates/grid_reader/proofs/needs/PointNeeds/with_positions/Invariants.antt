use Rattle.kit_words.proofs.Common.{◌≡◌, flat_map, fold}
use Rattle.json_spans.specs.Common.{node, items, items_left}
use Rattle.decimal_texts.specs.Common.{first_two}
use Rattle.grid_reader.specs.Common.{needs_with}
use Rattle.grid_reader.proofs.needs.PointNeeds.with_positions.Given as goal

abbrev pub invariant-loop-position : goal.invariant-loop-position
invariant-loop-position l =
    fold needs_with l.needs (flat_map first_two (items_left l.position-iterator))
    ≡ fold needs_with l.fn.self (flat_map first_two (items (node l.fn.list)))
