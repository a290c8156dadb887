use Rattle.kit_words.proofs.Common.{◌≡◌, ◌+◌, IsTrue, get_or}
use Rattle.std.specs.List.{AllAdjacentBelow}
use Rattle.layer_sides.specs.Common.{top}
use Rattle.layer_sides.specs.Order.{is_right}
use Rattle.layer_sides.specs.Seen.{segments_seen}
use Rattle.layer_sides.specs.Under.{segment_at}
use Rattle.layer_sides.proofs.begun.are_in_order.Given as goal

-- the last one, and those as far as it are in order
abbrev pub invariant-loop-place : goal.invariant-loop-place
invariant-loop-place g l =
    (l.last ≡ get_or l.begun l.place-index 0)
    × AllAdjacentBelow (λ i j. IsTrue (is_right (top (segment_at (segments_seen l.borders) j)) (segment_at (segments_seen l.borders) i))) l.begun (l.place-index + 1)
