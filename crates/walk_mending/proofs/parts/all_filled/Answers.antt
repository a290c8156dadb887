use Rattle.kit_words.proofs.Common.{◌≡◌, true, false, ap, sym, ◌∙◌, list_all}
use Rattle.ring_machine.specs.Common.{is_ring}
use Rattle.walk_mending.proofs.Bounds.{fails_at, passes_on}
use Rattle.walk_mending.proofs.Parting.{is_filled, filled_if, unfilled_empty, unfilled_if}
use Rattle.walk_mending.proofs.parts.all_filled.Goals as goal
use Rattle.walk_mending.proofs.parts.all_filled.Goals.{then-is_empty-via-then-is_empty, then-is_empty-via-else-is_empty+in_ok-are_rings+then-not-branch}
use Rattle.ring_parts.specs.Common.{rings_seen}

pub returns-then-is_empty : goal.returns-then-is_empty
returns-then-is_empty g c =
    let part = c.part-item.result in
    let unfilled : is_filled (rings_seen part.items) ≡ false =
    elim c.then-is_empty.branch [
      | then-is_empty-via-then-is_empty w ↦
          unfilled_empty (λ ring. ring.items) part.items part.len c.is_empty.result part.ok.0 c.is_empty.ensures w.if-is_empty.true
      | then-is_empty-via-else-is_empty+in_ok-are_rings+then-not-branch w ↦
          unfilled_if (rings_seen part.items)
          (ap (λ z. list_all is_ring (rings_seen z)) (sym w.as_slice.ensures.value) ∙ sym w.in_ok-are_rings.ensures ∙ w.if-not-branch.true)
    ] in
    fails_at is_filled (λ part. rings_seen part.items) c.args.parts.now c.loop-part.part-index part c.loop-part-test.true c.part-item.is unfilled

pub loop-part-preserved : goal.loop-part-preserved
loop-part-preserved g c =
    let part = c.part-item.result in
    let rings : list_all is_ring (rings_seen part.items) ≡ true =
    ap (λ z. list_all is_ring (rings_seen z)) (sym c.as_slice.ensures.value) ∙ sym c.in_ok-are_rings.ensures ∙ c.if-not-branch.false in
    passes_on is_filled (λ part. rings_seen part.items) c.args.parts.now c.loop-part.part-index part c.loop-part-test.true c.part-item.is c.loop-part.invariant
    (filled_if (λ ring. ring.items) part.items part.len c.is_empty.result part.ok.0 c.is_empty.ensures c.if-is_empty.false rings)
