use Rattle.kit_words.proofs.Common.{◌≡◌, iter_rest}
use Rattle.map_frame.specs.Common.{shown_leaves}
use Rattle.map_frame.proofs.items.next_live.Given as goal

-- no feature was passed over
abbrev pub invariant-loop-number : goal.invariant-loop-number
invariant-loop-number g l = record {
  can : (goal.iterator-loop-number g).can_next l.numbers;
  finite : (goal.iterator-loop-number g).is_finite l.numbers;
  same : shown_leaves l.features (iter_rest l.fn.numbers) ≡ shown_leaves l.features (iter_rest l.numbers);
}
