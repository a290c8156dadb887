use Rattle.map_frame.specs.Common.{polygon_numbers}
use Rattle.feature_exchange.proofs.KeyLists.{part_held}
use Rattle.feature_exchange.proofs.reading.feature_positions.Goals as goal

pub polygon_positions-requires-clause-held : goal.polygon_positions-requires-clause-held
polygon_positions-requires-clause-held g c =
    part_held c.args.tables.now.borders polygon_numbers c.args.polygons.now c.loop-rings.rings-index c.rings-item.result c.as_slice.result.now c.loop-rings-test.true c.rings-item.is c.as_slice.ensures.value c.requires.held
