use Rattle.kit_words.proofs.Common.{◌≡◌, ◌++◌, map, flat_map}
use Rattle.json_spans.specs.Common.{node, items, items_left}
use Rattle.decimal_texts.specs.Common.{first_two}
use Rattle.decimal_texts.proofs.points.push_pairs.Given as goal

abbrev pub invariant-loop-position : goal.invariant-loop-position
invariant-loop-position g l =
    map node l.out.items ++ flat_map first_two (items_left l.position-iterator)
    ≡ map node l.fn.out.items ++ flat_map first_two (items (node l.fn.list))
