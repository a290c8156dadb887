use Rattle.map_drawing.proofs.LabelledLemmas.{longer}
use Rattle.map_drawing.proofs.map_picture.Picture.push_list.Goals as goal

pub returns : goal.returns
returns g c = longer _ _ _ c.as_slice.result.now c.in_ok-push_legend.ensures c.in_ok-extend_from_slice.ensures.items
