use Rattle.grid_geometry.specs.Common.{position_cmp}
use Rattle.place_text.specs.Common.{numbers_in, touch_pos}
use Rattle.place_text.proofs.Asking.{asked_next}
use Rattle.place_text.proofs.owners.ask_vertices.Goals as goal

pub loop-touch-preserved : goal.loop-touch-preserved
loop-touch-preserved g c = λ p.
    asked_next position_cmp touch_pos c.args.touches.now c.loop-touch.touch-index c.touch-item.result p
    (numbers_in position_cmp c.args.table.now p) (numbers_in position_cmp c.loop-touch.table p) (numbers_in position_cmp c.ask.new.table p)
    c.loop-touch-test.true c.touch-item.is (c.loop-touch.invariant p) (c.in_ok-ask.ensures p)
