use Rattle.kit_words.proofs.Common.{◌≡◌, ◌+◌, take, All}
use Rattle.layer_faces.proofs.order.run_length.Given as goal

-- those so far have the label of the first
abbrev pub invariant-loop-next : goal.invariant-loop-next
invariant-loop-next l = record {
  place : l.count ≡ l.next-index + 1;
  same : All (λ next. next.label ≡ l.first.label) (take l.next-index l.rest);
}
