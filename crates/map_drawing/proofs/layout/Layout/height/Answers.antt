use Rattle.kit_words.proofs.Common.{arith}
use Rattle.map_drawing.proofs.ProductLemmas.{size_in_parts}
use Rattle.map_drawing.proofs.layout.Layout.height.Goals as goal

pub returns : goal.returns
returns c =
    let layout = c.args.self.now in
    size_in_parts layout.place.height layout.parts 720 (omega arith) layout.down layout.fine
