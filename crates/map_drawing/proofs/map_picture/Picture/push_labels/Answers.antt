use Rattle.map_drawing.proofs.LabelledLemmas.{more_names, no_name}
use Rattle.map_drawing.proofs.map_picture.Picture.push_labels.Goals as goal

pub loop-shape-init : goal.loop-shape-init
loop-shape-init g c = no_name _

pub loop-shape-preserved : goal.loop-shape-preserved
loop-shape-preserved g c = more_names _ _ _ c.loop-shape.invariant c.in_ok-push_label.ensures

pub returns : goal.returns
returns g c = c.loop-shape.invariant
