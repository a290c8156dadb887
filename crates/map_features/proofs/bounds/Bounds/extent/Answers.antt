use Rattle.map_features.proofs.WindowLemmas.{extent_answered}
use Rattle.map_features.proofs.bounds.Bounds.extent.Goals as goal

pub returns : goal.returns
returns c =
    let b = c.args.self.now in
    extent_answered c.max.result b.x0 b.x1 b.y0 b.y1 c.max.ensures.value b.left b.right b.across b.lower b.upper b.upward
