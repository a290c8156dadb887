use Rattle.kit_words.proofs.Common.{take, drop, length, ◌-◌}
use Rattle.grid_geometry.proofs.RingLemmas.{parity_step}
use Rattle.grid_geometry.proofs.ring.inside.Goals as goal

pub loop-to-preserved : goal.loop-to-preserved
loop-to-preserved c =
    let rest = take (length c.args.ring.now - 1) (drop 1 c.args.ring.now) in
    parity_step c.args.w c.loop-to.from rest c.loop-to.to-index c.to-item.result c.first-item.result
    c.loop-to.odd c.counts-odd.result _ c.loop-to-test.true c.to-item.is c.counts-odd.ensures c.loop-to.invariant
