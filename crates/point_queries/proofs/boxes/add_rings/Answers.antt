use Rattle.kit_words.proofs.Common.{◌≡◌, ◌≤◌, true, subst, sym, arith, length}
use Rattle.ring_machine.specs.Common.{is_distinct}
use Rattle.ring_machine.proofs.Common.{ring_long, ring_distinct}
use Rattle.point_queries.specs.Common.{IsCovered}
use Rattle.point_queries.proofs.RingsCovered.{ring_at, next_ring, all_rings}
use Rattle.point_queries.proofs.boxes.add_rings.Goals as goal

pub add-requires-clause-some : goal.add-requires-clause-some
add-requires-clause-some g c =
    let is = ring_at c.args.polygon.now c.loop-ring.ring-index c.ring-item.result c.loop-ring-test.true c.ring-item.is c.requires in
    subst (λ z. 2 ≤ length z) (sym c.as_slice.ensures.value) (omega (arith, ring_long c.ring-item.result.items is))

pub add-requires-clause-distinct : goal.add-requires-clause-distinct
add-requires-clause-distinct g c =
    let is = ring_at c.args.polygon.now c.loop-ring.ring-index c.ring-item.result c.loop-ring-test.true c.ring-item.is c.requires in
    subst (λ z. is_distinct z ≡ true) (sym c.as_slice.ensures.value) (ring_distinct c.ring-item.result.items is)

pub loop-ring-preserved : goal.loop-ring-preserved
loop-ring-preserved g c = record {
  covered = next_ring c.args.polygon.now c.loop-ring.ring-index c.ring-item.result c.loop-ring.boxes c.add.new.self
      c.loop-ring-test.true c.ring-item.is c.add.ensures.keeps
      (subst (IsCovered c.add.new.self) c.as_slice.ensures.value c.in_ok-add.ensures.covered) c.loop-ring.invariant.covered;
  keeps = λ r h. c.add.ensures.keeps r (c.loop-ring.invariant.keeps r h);
}

pub returns-clause-covered : goal.returns-clause-covered
returns-clause-covered g c =
    all_rings c.args.polygon.now c.loop-ring.ring-index c.loop-ring.boxes
    (omega (arith, c.loop-ring-test.false)) c.loop-ring.invariant.covered
