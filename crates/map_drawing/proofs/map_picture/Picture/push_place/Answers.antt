use Rattle.map_drawing.proofs.LabelledLemmas.{no_place}
use Rattle.map_drawing.proofs.map_picture.Picture.push_place.Goals as goal

pub returns-in-Some : goal.returns-in-Some
returns-in-Some g c = rw c.in-Some.is c.push_fault.ensures

pub returns-in-None : goal.returns-in-None
returns-in-None g c = rw c.in-None.is (no_place _)
