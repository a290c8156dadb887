use Rattle.kit_words.proofs.Common.{◌≡◌, map}
use Rattle.std.specs.List.{range_with_len}
use Rattle.layer_faces.specs.Order.{side_of}
use Rattle.layer_faces.proofs.order.with_labels.Given as goal

-- the sides so far
abbrev pub invariant-loop-side : goal.invariant-loop-side
invariant-loop-side g l = map side_of l.order.items ≡ range_with_len 0 l.side
