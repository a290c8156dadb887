use Rattle.kit_words.proofs.Common.{◌≤◌, ◌+◌, sym, ap, ◌∙◌, subst, map, length, arith, pos, ◌+ℤ◌, sum_by, ints}
use Rattle.ring_machine.specs.Query as query
use Rattle.topo_reader.specs.Common.{positions_of, polygon_positions}
use Rattle.map_mending.proofs.Summing.{sum_at, fold_more, sum_more, sum_front}
use Rattle.map_mending.proofs.areas.area.Goals as goal

pub polygon_area-part-requires : goal.polygon_area-part-requires
polygon_area-part-requires g c =
    let at = sum_at (sum_by length) polygon_positions c.args.polygons.now c.loop-polygon.polygon-index c.polygon-item.result c.loop-polygon-test.true c.polygon-item.is in
    subst (λ ps. sum_by length (map positions_of ps) ≤ 4000000) (sym c.as_slice.ensures.value) (omega (arith, at, c.requires))

pub overflow_add-area : goal.overflow_add-area
overflow_add-area g c =
    let same = ap (λ ps. sum_by length (map positions_of ps)) c.as_slice.ensures.value in
    let more = sum_more (sum_by length) polygon_positions c.args.polygons.now c.loop-polygon.polygon-index c.polygon-item.result c.loop-polygon-test.true c.polygon-item.is in
    let front = sum_front (sum_by length) polygon_positions c.args.polygons.now (c.loop-polygon.polygon-index + 1) in
    omega (arith, ints, same, more, front, c.requires, c.loop-polygon.invariant.bound, c.polygon_area-part.ensures.bound)

pub loop-polygon-preserved : goal.loop-polygon-preserved
loop-polygon-preserved g c =
    let same = ap (λ ps. sum_by length (map positions_of ps)) c.as_slice.ensures.value in
    let more = sum_more (sum_by length) polygon_positions c.args.polygons.now c.loop-polygon.polygon-index c.polygon-item.result c.loop-polygon-test.true c.polygon-item.is in
    let front = sum_front (sum_by length) polygon_positions c.args.polygons.now (c.loop-polygon.polygon-index + 1) in
    let step = fold_more (λ so_far polygon. so_far +ℤ query.polygon_area polygon) (pos 0) polygon_positions c.args.polygons.now c.loop-polygon.polygon-index c.polygon-item.result c.loop-polygon-test.true c.polygon-item.is in
    let value = c.polygon_area-part.ensures.value ∙ ap (λ ps. query.polygon_area (map positions_of ps)) c.as_slice.ensures.value in
    record {
      whole = omega (arith, ints, same, more, front, step, value, c.requires, c.loop-polygon.invariant.whole, c.loop-polygon.invariant.bound, c.polygon_area-part.ensures.bound);
      bound = omega (arith, ints, same, more, front, c.requires, c.loop-polygon.invariant.bound, c.polygon_area-part.ensures.bound);
    }
