use Rattle.map_drawing.proofs.LabelledLemmas.{asked_for, unasked}
use Rattle.map_drawing.proofs.map_picture.Picture.push_asked.Goals as goal

pub returns-then-asked : goal.returns-then-asked
returns-then-asked g c = asked_for c.push_labels.result c.args.asked _ _ c.if-asked.true c.push_labels.ensures

pub returns-else-asked : goal.returns-else-asked
returns-else-asked g c = unasked c.args.asked _ c.if-asked.false
