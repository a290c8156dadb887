use Rattle.kit_words.proofs.Common.{◌+◌, arith, ap, ◌∙◌, map, length, take_all}
use Rattle.std.specs.Prelude.{sum_by}
use Rattle.segment_paths.specs.Common.{paths_seen}
use Rattle.topo_reader.specs.Common.{positions_of, polygon_positions}
use Rattle.map_mending.specs.Common.{swept_walks, swept_of}
use Rattle.map_mending.proofs.Summing.{sum_more, sum_front, sum_at}
use Rattle.map_mending.proofs.sweeping.swept.Goals as goal

pub swept_walks-sum-requires-clause-few : goal.swept_walks-sum-requires-clause-few
swept_walks-sum-requires-clause-few g c =
    let at = sum_at (sum_by length) polygon_positions c.args.polygons.now c.loop-walks.walks-index c.walks-item.result c.loop-walks-test.true c.walks-item.is in
    omega (arith, at, c.requires.few, ap (λ ws. sum_by length (map positions_of ws)) c.as_slice.ensures.value)

pub overflow_add-sum : goal.overflow_add-sum
overflow_add-sum g c =
    let more = sum_more (sum_by length) polygon_positions c.args.polygons.now c.loop-walks.walks-index c.walks-item.result c.loop-walks-test.true c.walks-item.is in
    let front = sum_front (sum_by length) polygon_positions c.args.polygons.now (c.loop-walks.walks-index + 1) in
    omega (arith, more, front, c.requires.few, c.loop-walks.invariant.bound, c.swept_walks-sum.ensures.bound, ap (λ ws. sum_by length (map positions_of ws)) c.as_slice.ensures.value)

pub loop-walks-preserved : goal.loop-walks-preserved
loop-walks-preserved g c =
    let paths = paths_seen c.args.paths.now in
    let more = sum_more (sum_by length) polygon_positions c.args.polygons.now c.loop-walks.walks-index c.walks-item.result c.loop-walks-test.true c.walks-item.is in
    let swept = sum_more (swept_walks paths) polygon_positions c.args.polygons.now c.loop-walks.walks-index c.walks-item.result c.loop-walks-test.true c.walks-item.is in
    let value = c.swept_walks-sum.ensures.value ∙ ap (λ ws. swept_walks paths (map positions_of ws)) c.as_slice.ensures.value in
    record {
      whole = omega (arith, swept, value, c.loop-walks.invariant.whole);
      bound = omega (arith, more, c.loop-walks.invariant.bound, c.swept_walks-sum.ensures.bound, ap (λ ws. sum_by length (map positions_of ws)) c.as_slice.ensures.value);
    }

pub returns : goal.returns
returns g c =
    c.loop-walks.invariant.whole
    ∙ ap (λ ps. swept_of (paths_seen c.args.paths.now) (map polygon_positions ps)) (take_all c.loop-walks.walks-index c.args.polygons.now c.loop-walks-test.false)
