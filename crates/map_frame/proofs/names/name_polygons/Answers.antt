use Rattle.kit_words.proofs.Common.{◌∙◌, arith, map, refl, subst, length-map}
use Rattle.map_frame.specs.Common.{polygon_numbers, IsNumberOf}
use Rattle.map_frame.proofs.BuiltNames.{polygon_named, polygons_named}
use Rattle.map_frame.proofs.NamedRoom.{of_part}
use Rattle.map_frame.proofs.ReadLists.{got, mapped_got}
use Rattle.map_frame.proofs.names.name_polygons.Goals as goal

pub name_polygon-requires : goal.name_polygon-requires
name_polygon-requires g c r i =
    let polygons = c.args.polygons.now in
    let polygon = c.index-polygons-polygon in
    let n = c.loop-polygon.polygon in
    let room = c.requires r (of_part polygon_numbers polygons n polygon.result r
    (got polygons polygons n refl polygon.result c.loop-polygon-test.true polygon.is) (subst (λ z. IsNumberOf z r) c.as_slice.ensures.value i)) in
    omega (arith, room, c.loop-polygon.invariant.1)

pub loop-polygon-preserved : goal.loop-polygon-preserved
loop-polygon-preserved g c =
    let polygons = c.args.polygons.now in
    let polygon = c.index-polygons-polygon in
    let n = c.loop-polygon.polygon in
    let rings = c.as_slice.result.now in (
      polygon_named c.args.feature (map polygon_numbers polygons) n c.args.names.now.items c.loop-polygon.names.items c.loop-polygon.invariant.0
          c.name_polygon.new.names.items rings
          (mapped_got polygon_numbers polygons n polygon.result rings c.loop-polygon-test.true polygon.is c.as_slice.ensures.value)
          c.name_polygon.ensures.gained,
      c.name_polygon.ensures.len ∙ c.loop-polygon.invariant.1,
    )

pub returns-clause-gained : goal.returns-clause-gained
returns-clause-gained g c =
    let polygons = c.args.polygons.now in
    polygons_named c.args.feature (map polygon_numbers polygons) c.loop-polygon.polygon c.args.names.now.items c.loop-polygon.names.items
    c.loop-polygon.invariant.0 (omega (arith, c.loop-polygon-test.false, length-map polygons polygon_numbers))
