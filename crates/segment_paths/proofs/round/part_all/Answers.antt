use Rattle.segment_paths.specs.Common.{IsPiece}
use Rattle.segment_paths.proofs.Led.{at_place}
use Rattle.segment_paths.proofs.round.part_all.Goals as goal

pub loop-one-preserved : goal.loop-one-preserved
loop-one-preserved g c ss paths h ones others =
    c.in_ok-part_from_each.ensures ss paths (c.loop-one.invariant ss paths h ones others)
    (at_place (IsPiece ss paths) c.args.ones.now c.loop-one.one-index c.one-item.result ones c.loop-one-test.true c.one-item.is) others
