use Rattle.segment_sets.proofs.Singles.{place-found, has-take_more}
use Rattle.segment_sets.proofs.cell.place_of.Goals as goal

pub returns-then-eq-clause-some : goal.returns-then-eq-clause-some
returns-then-eq-clause-some c =
    (c.loop-place-test.true, place-found c.args.items.now c.args.s c.index-items-place.result c.loop-place.place c.loop-place-test.true c.index-items-place.is (rw c.if-eq.true at c.eq.ensures))

pub loop-place-preserved : goal.loop-place-preserved
loop-place-preserved c =
    has-take_more c.args.items.now c.args.s c.index-items-place.result c.loop-place.place c.loop-place-test.true c.index-items-place.is (rw c.if-eq.false at c.eq.ensures) c.loop-place.invariant
