use Rattle.kit_words.proofs.Common.{arith, map, length-map}
use Rattle.map_frame.specs.Common.{polygon_numbers}
use Rattle.map_frame.proofs.BuiltNames.{polygon_named, polygons_named, gain_after}
use Rattle.map_frame.proofs.NamedLists.{OfPolygon}
use Rattle.map_frame.proofs.ReadLists.{mapped_got}
use Rattle.map_frame.proofs.names.name_feature.Goals as goal

pub loop-polygon-preserved : goal.loop-polygon-preserved
loop-polygon-preserved g c =
    let polygons = c.args.polygons.now in
    let n = c.loop-polygon.polygon in
    let rings = c.as_slice-rings.result.now in
    polygon_named c.args.feature (map polygon_numbers polygons) n c.args.names.now.items c.loop-polygon.names.items c.loop-polygon.invariant
    c.name_polygon.new.names.items rings
    (mapped_got polygon_numbers polygons n c.index-polygons-polygon.result rings (omega (arith, c.loop-polygon-test.true))
    c.index-polygons-polygon.is c.as_slice-rings.ensures.value)
    (gain_after (OfPolygon c.args.feature n rings) c.loop-polygon.names.items c.make_room.new.names.items
    c.name_polygon.new.names.items c.make_room.ensures.same c.name_polygon.ensures.gained)

pub returns : goal.returns
returns g c =
    let polygons = c.args.polygons.now in
    polygons_named c.args.feature (map polygon_numbers polygons) c.loop-polygon.polygon c.args.names.now.items c.loop-polygon.names.items
    c.loop-polygon.invariant (omega (arith, c.loop-polygon-test.false, length-map polygons polygon_numbers))
