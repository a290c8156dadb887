use Rattle.map_drawing.proofs.LabelledLemmas.{five_more, nothing}
use Rattle.map_drawing.proofs.map_picture.Picture.push_ring.Goals as goal

pub returns-in_ok-extend_from_slice-2 : goal.returns-in_ok-extend_from_slice-2
returns-in_ok-extend_from_slice-2 g c =
    five_more _ _ _ _ _ _ _ _ _ _ _ c.in_ok-extend_from_slice.ensures.items c.in_ok-push_attribute.ensures c.in_ok-push_attribute-2.ensures
    c.in_ok-push_attribute-3.ensures c.in_ok-extend_from_slice-2.ensures.items

pub returns-else-has : goal.returns-else-has
returns-else-has g c = nothing _
