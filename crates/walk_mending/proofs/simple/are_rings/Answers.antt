use Rattle.kit_words.proofs.Common.{◌≡◌, true, false, ap, sym, ◌∙◌}
use Rattle.ring_machine.specs.Common.{is_ring, begins_least}
use Rattle.topo_reader.specs.Common.{is_simple}
use Rattle.walk_mending.proofs.Bounds.{fails_at, passes_on, is_ring_if, not_least, not_simple}
use Rattle.walk_mending.proofs.simple.are_rings.Goals as goal
use Rattle.walk_mending.proofs.simple.are_rings.Goals.{then-not-begins_least-via-then-not-begins_least}
use Rattle.walk_mending.proofs.simple.are_rings.Goals.{then-not-begins_least-via-else-not-begins_least+in_ok-is_simple+then-not-branch}

pub returns-then-not-begins_least : goal.returns-then-not-begins_least
returns-then-not-begins_least g c =
    let ring = c.ring-item.result.items in
    let none : is_ring ring ≡ false =
    elim c.then-not-begins_least.branch [
      | then-not-begins_least-via-then-not-begins_least w ↦
          not_least ring (ap begins_least (sym c.as_slice.ensures.value) ∙ sym c.begins_least.ensures ∙ w.if-not-begins_least.true)
      | then-not-begins_least-via-else-not-begins_least+in_ok-is_simple+then-not-branch w ↦
          not_simple ring (ap is_simple (sym w.as_slice-else-not-begins_least.ensures.value) ∙ sym w.in_ok-is_simple.ensures ∙ w.if-not-branch.true)
    ] in
    fails_at is_ring (λ ring. ring.items) c.args.rings.now c.loop-ring.ring-index c.ring-item.result c.loop-ring-test.true c.ring-item.is none

pub loop-ring-preserved : goal.loop-ring-preserved
loop-ring-preserved g c =
    let ring = c.ring-item.result.items in
    let least : begins_least ring ≡ true = ap begins_least (sym c.as_slice.ensures.value) ∙ sym c.begins_least.ensures ∙ c.if-not-begins_least.false in
    let simple : is_simple ring ≡ true = ap is_simple (sym c.as_slice-else-not-begins_least.ensures.value) ∙ sym c.in_ok-is_simple.ensures ∙ c.if-not-branch.false in
    passes_on is_ring (λ ring. ring.items) c.args.rings.now c.loop-ring.ring-index c.ring-item.result c.loop-ring-test.true c.ring-item.is
    c.loop-ring.invariant (is_ring_if ring least simple)
