use Rattle.kit_words.proofs.Common.{◌+◌, arith, ap, ◌∙◌, map, length, take_all}
use Rattle.std.specs.Prelude.{sum_by}
use Rattle.grid_geometry.specs.Common.{edges}
use Rattle.segment_paths.specs.Common.{paths_seen}
use Rattle.topo_reader.specs.Common.{positions_of}
use Rattle.map_mending.specs.Common.{swept_by, swept_walks}
use Rattle.map_mending.proofs.Summing.{sum_more, sum_front, sum_at}
use Rattle.map_mending.proofs.sweeping.swept_walks.Goals as goal

pub swept_walk-sum-requires-clause-few : goal.swept_walk-sum-requires-clause-few
swept_walk-sum-requires-clause-few g c =
    let at = sum_at length positions_of c.args.walks.now c.loop-walk.walk-index c.walk-item.result c.loop-walk-test.true c.walk-item.is in
    omega (arith, at, c.requires.few, ap (λ ps. length ps) c.as_slice.ensures.value)

pub overflow_add-sum : goal.overflow_add-sum
overflow_add-sum g c =
    let more = sum_more length positions_of c.args.walks.now c.loop-walk.walk-index c.walk-item.result c.loop-walk-test.true c.walk-item.is in
    let front = sum_front length positions_of c.args.walks.now (c.loop-walk.walk-index + 1) in
    omega (arith, more, front, c.requires.few, c.loop-walk.invariant.bound, c.swept_walk-sum.ensures.bound, ap (λ ps. length ps) c.as_slice.ensures.value)

pub loop-walk-preserved : goal.loop-walk-preserved
loop-walk-preserved g c =
    let paths = paths_seen c.args.paths.now in
    let more = sum_more length positions_of c.args.walks.now c.loop-walk.walk-index c.walk-item.result c.loop-walk-test.true c.walk-item.is in
    let swept = sum_more (λ w. sum_by (swept_by paths) (edges w)) positions_of c.args.walks.now c.loop-walk.walk-index c.walk-item.result c.loop-walk-test.true c.walk-item.is in
    let value = c.swept_walk-sum.ensures.value ∙ ap (λ ps. sum_by (swept_by paths) (edges ps)) c.as_slice.ensures.value in
    record {
      whole = omega (arith, swept, value, c.loop-walk.invariant.whole);
      bound = omega (arith, more, c.loop-walk.invariant.bound, c.swept_walk-sum.ensures.bound, ap (λ ps. length ps) c.as_slice.ensures.value);
    }

pub returns : goal.returns
returns g c =
    let all = take_all c.loop-walk.walk-index c.args.walks.now c.loop-walk-test.false in
    record {
      value = c.loop-walk.invariant.whole ∙ ap (λ ws. swept_walks (paths_seen c.args.paths.now) (map positions_of ws)) all;
      bound = omega (arith, c.loop-walk.invariant.bound, ap (λ ws. sum_by length (map positions_of ws)) all);
    }
