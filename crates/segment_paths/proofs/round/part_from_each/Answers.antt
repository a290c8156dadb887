use Rattle.segment_paths.specs.Common.{IsPiece}
use Rattle.segment_paths.proofs.Led.{at_place}
use Rattle.segment_paths.proofs.round.part_from_each.Goals as goal

pub loop-other-preserved : goal.loop-other-preserved
loop-other-preserved g c ss paths h one others =
    c.in_ok-part.ensures ss paths (c.loop-other.invariant ss paths h one others) one
    (at_place (IsPiece ss paths) c.args.others.now c.loop-other.other-index c.other-item.result others c.loop-other-test.true c.other-item.is)
