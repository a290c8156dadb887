use Rattle.map_drawing.specs.Names.{AddsNames}
use Rattle.map_drawing.proofs.map_picture.Picture.push_labels.Given as goal

-- labels alone so far
abbrev pub invariant-loop-shape : goal.invariant-loop-shape
invariant-loop-shape g l = AddsNames l.fn.self.text.items l.self.text.items
