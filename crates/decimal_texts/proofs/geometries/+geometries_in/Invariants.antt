use Rattle.kit_words.proofs.Common.{◌≡◌, ◌-◌, ◌++◌, map, flat_map}
use Rattle.json_spans.specs.Common.{node, items_left}
use Rattle.decimal_texts.specs.Common.{geometries_in}
use Rattle.decimal_texts.proofs.geometries.+geometries_in.Given as goal

abbrev pub decreases-geometries_in : goal.decreases-geometries_in
decreases-geometries_in g l = l.depth

abbrev pub invariant-loop-part : goal.invariant-loop-part
invariant-loop-part g l = map node l.out.items ++ flat_map (geometries_in l.shape (l.depth - 1)) (items_left l.part-iterator) ≡ map node l.initial.out.items ++ geometries_in l.shape l.depth (node l.span)
