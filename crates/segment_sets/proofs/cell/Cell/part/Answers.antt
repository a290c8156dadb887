use Rattle.kit_words.proofs.Common.{◌++◌}
use Rattle.segment_sets.proofs.Branches.{part-more}
use Rattle.segment_sets.proofs.cell.Cell.part.Goals as goal

pub loop-t-preserved : goal.loop-t-preserved
loop-t-preserved g c =
    let before = rw c.segments-t-items.ensures at c.loop-t-test.true in
    let is = rw c.segments-t-items.ensures at c.t-item.is in
    part-more c.args.self.now c.t-item.result c.loop-t.t-index (c.loop-t.along ++ c.loop-t.aside) (c.put_either.new.along ++ c.put_either.new.aside) before is c.loop-t.invariant c.in_ok-put_either.ensures
