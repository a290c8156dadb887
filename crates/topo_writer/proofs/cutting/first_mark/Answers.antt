use Rattle.kit_words.proofs.Common.{◌∙◌, ◌<◌, sym, ap, length, arith, length-map}
use Rattle.topo_writer.proofs.Marks.{mark_at, from_more, before_more, begun_at}
use Rattle.topo_writer.proofs.cutting.first_mark.Goals as goal

pub returns-then-marks-i-clause-begun : goal.returns-then-marks-i-clause-begun
returns-then-marks-i-clause-begun c junction ring h =
    let i = c.loop-i.i in
    let told = c.loop-i.invariant junction ring h in
    begun_at junction ring i (omega (arith, c.loop-i-test.true, ap length h, length-map ring junction))
    (sym (mark_at junction ring c.args.marks.now i h c.loop-i-test.true) ∙ c.if-marks-i.true) told.0 told.1

pub loop-i-preserved : goal.loop-i-preserved
loop-i-preserved c junction ring h =
    let i = c.loop-i.i in
    let told = c.loop-i.invariant junction ring h in
    let within : i < length ring = omega (arith, c.loop-i-test.true, ap length h, length-map ring junction) in
    let unmarked = sym (mark_at junction ring c.args.marks.now i h c.loop-i-test.true) ∙ c.if-marks-i.false in
    (told.0 ∙ from_more junction ring i within unmarked, told.1 ∙ before_more junction ring i within unmarked)
