use Rattle.kit_words.proofs.Common.{map, map-append}
use Rattle.topo_outline.proofs.Common.{each_turn}
use Rattle.topo_reader.specs.Common.{polygon, positions_of}
use Rattle.topo_reader.proofs.indexes.polygons.Goals as goal

pub loop-part-preserved : goal.loop-part-preserved
loop-part-preserved g c = rw (c.in_ok-push-in-MultiPolygon.ensures.items, map-append) (each_turn (polygon (map positions_of c.args.arcs.now)) _ _ _ _ _ _ c.in-Some.ensures.steps c.in-Ok-polygon.ensures c.loop-part.invariant)
