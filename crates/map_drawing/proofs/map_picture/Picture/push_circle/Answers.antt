use Rattle.map_drawing.proofs.LabelledLemmas.{nothing}
use Rattle.map_drawing.proofs.map_picture.Picture.push_circle.Goals as goal

pub returns-in-None : goal.returns-in-None
returns-in-None g c = nothing _
