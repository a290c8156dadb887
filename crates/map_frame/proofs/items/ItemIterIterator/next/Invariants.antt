use Rattle.kit_words.proofs.Common.{◌≡◌, length, iter_rest}
use Rattle.map_frame.specs.Common.{shown_rest}
use Rattle.map_frame.proofs.items.ItemIterIterator.next.Given as goal

-- nothing that is shown was passed over
abbrev pub invariant-loop-number : goal.invariant-loop-number
invariant-loop-number g l =
    l.fn.self ≡ shown_rest l.self-inside.features.now (iter_rest l.self-inside.numbers) (iter_rest l.self-inside.slots)

abbrev pub decreases-loop-number : goal.decreases-loop-number
decreases-loop-number g l = length (iter_rest l.self-inside.slots)
