use Rattle.kit_words.proofs.Common.{◌≡◌, ◌<◌, ◌≤◌, pos, sym, ap, ◌∙◌, subst, arith, ints, map, length, get_or, to_z, of_z, w128}
use Rattle.std.specs.Prelude.{sum_by}
use Rattle.std.proofs.lemmas.List.{get_or_default}
use Rattle.ring_machine.specs.Common.{polygon_area}
use Rattle.layer_faces.proofs.Counting.{polygon_positions, positions_of}
use Rattle.layer_faces.proofs.Summing.{sum_at}
use Rattle.layer_faces.proofs.Weighing.{over_fits, told_all, told_next, told_same}
use Rattle.layer_faces.proofs.uneven.uneven_in.Goals as goal

pub polygon_area-requires : goal.polygon_area-requires
polygon_area-requires g c =
    let at = sum_at (sum_by length) polygon_positions c.args.polygons.now c.loop-polygon.polygon c.index-polygons-polygon.result c.loop-polygon-test.true c.index-polygons-polygon.is in
    subst (λ ps. sum_by length (map positions_of ps) ≤ 4000000) (sym c.as_slice.ensures.value) (omega (arith, at, c.requires.few))

pub loop-polygon-preserved : goal.loop-polygon-preserved
loop-polygon-preserved g c =
    let i = c.loop-polygon.polygon in
    let p = c.index-polygons-polygon.result in
    let z = get_or c.args.areas.now i (pos 0) in
    let within : i < length c.args.areas.now = omega (arith, c.requires.same, c.loop-polygon-test.true) in
    let a = to_z w128 (of_z w128 c.polygon_area.result) in
    let b = to_z w128 (of_z w128 z) in
    let whole : a ≡ c.polygon_area.result = omega (arith, ints) in
    let by_rings : a ≡ polygon_area (polygon_positions p) = whole ∙ c.polygon_area.ensures.value ∙ ap (λ ps. polygon_area (map positions_of ps)) c.as_slice.ensures.value in
    let near = c.requires.small i (pos 0) within in
    let even_odd : b ≡ z = over_fits z near in
    told_next polygon_positions c.loop-polygon.found.items c.push_uneven.new.found.items c.args.polygons.now c.args.areas.now i p z _
    c.loop-polygon-test.true c.index-polygons-polygon.is within (get_or_default c.args.areas.now i (pos 0) z within)
    (told_same c.loop-polygon.found.items c.push_uneven.new.found.items i (polygon_positions p) a b z by_rings even_odd c.in_ok-push_uneven.ensures)
    c.loop-polygon.invariant

pub returns : goal.returns
returns g c = told_all polygon_positions c.loop-polygon.found.items _ c.args.polygons.now c.args.areas.now c.loop-polygon.polygon c.loop-polygon-test.false c.loop-polygon.invariant
