use Rattle.kit_words.proofs.Common.{arith}
use Rattle.map_drawing.proofs.ProductLemmas.{size_in_parts}
use Rattle.map_drawing.proofs.layout.Layout.width.Goals as goal

pub returns : goal.returns
returns c =
    let layout = c.args.self.now in
    size_in_parts layout.place.width layout.parts 960 (omega arith) layout.across layout.fine
