use Rattle.kit_words.proofs.Common.{arith, map, ◌∙◌, length-map}
use Rattle.map_frame.specs.Common.{polygon_numbers}
use Rattle.map_frame.proofs.NamedForgotten.{polygon_forgotten, polygons_forgotten}
use Rattle.map_frame.proofs.ReadLists.{mapped_got}
use Rattle.map_frame.proofs.names.forget_feature.Goals as goal

pub loop-polygon-preserved : goal.loop-polygon-preserved
loop-polygon-preserved g c =
    let polygons = c.args.polygons.now in
    let n = c.loop-polygon.polygon-index in
    record {
      lost = polygon_forgotten (map polygon_numbers polygons) n c.args.names.now.items c.loop-polygon.names.items
          c.forget_polygon.new.names.items c.as_slice.result.now
          (mapped_got polygon_numbers polygons n c.polygon-item.result c.as_slice.result.now c.loop-polygon-test.true c.polygon-item.is c.as_slice.ensures.value)
          c.loop-polygon.invariant.lost c.forget_polygon.ensures.lost;
      len = c.forget_polygon.ensures.len ∙ c.loop-polygon.invariant.len;
    }

pub returns-clause-lost : goal.returns-clause-lost
returns-clause-lost g c =
    let polygons = c.args.polygons.now in
    let n = c.loop-polygon.polygon-index in
    polygons_forgotten (map polygon_numbers polygons) n c.args.names.now.items c.loop-polygon.names.items
    (omega (arith, c.loop-polygon-test.false, length-map polygons polygon_numbers)) c.loop-polygon.invariant.lost
