use Rattle.grid_geometry.specs.Common.{segment_cmp}
use Rattle.place_text.specs.Common.{numbers_in, side_segment}
use Rattle.place_text.proofs.Asking.{asked_next}
use Rattle.place_text.proofs.owners.ask_sides.Goals as goal

pub loop-side-preserved : goal.loop-side-preserved
loop-side-preserved g c = λ s.
    asked_next segment_cmp side_segment c.args.sides.now c.loop-side.side-index c.side-item.result s
    (numbers_in segment_cmp c.args.table.now s) (numbers_in segment_cmp c.loop-side.table s) (numbers_in segment_cmp c.ask.new.table s)
    c.loop-side-test.true c.side-item.is (c.loop-side.invariant s) (c.in_ok-ask.ensures s)
