use Rattle.map_features.proofs.WithinLemmas.{polygons_shown}
use Rattle.map_features.proofs.shapes.Shape.surroundings.Goals as goal

pub returns : goal.returns
returns g c =
    polygons_shown c.in_ok-bounds.bounds c.near.result c.near.ensures c.args.self.now.polygons.now c.in_ok-bounds.ensures
