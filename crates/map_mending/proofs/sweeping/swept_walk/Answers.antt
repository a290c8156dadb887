use Rattle.kit_words.proofs.Common.{◌+◌, ◌-◌, arith, ap, ◌∙◌, take, drop, length}
use Rattle.std.specs.Prelude.{sum_by}
use Rattle.grid_geometry.specs.Common.{edges}
use Rattle.grid_geometry.proofs.Common.{ring_is}
use Rattle.segment_paths.specs.Common.{paths_seen}
use Rattle.map_mending.specs.Common.{swept_by}
use Rattle.map_mending.proofs.StepByStep.{link_next, link_last}
use Rattle.map_mending.proofs.sweeping.swept_walk.Goals as goal

pub loop-to-preserved : goal.loop-to-preserved
loop-to-preserved g c =
    let rest = take (length c.args.walk.now - 1) (drop 1 c.args.walk.now) in
    record {
      whole = link_next (swept_by (paths_seen c.args.paths.now)) c.loop-to.from c.to-item.result c.first-item.result rest c.loop-to.to-index c.loop-to.sum c.swept_by-sum.result _
          c.loop-to-test.true c.to-item.is c.swept_by-sum.ensures.value c.loop-to.invariant.whole;
      bound = omega (arith, c.loop-to.invariant.bound, c.swept_by-sum.ensures.bound);
    }

pub returns : goal.returns
returns g c =
    let f = swept_by (paths_seen c.args.paths.now) in
    let rest = take (length c.args.walk.now - 1) (drop 1 c.args.walk.now) in
    let is = ring_is c.args.walk.now c.first-item.result c.in-len1-up.len_at_least c.first-item.is in
    let last = link_last f c.loop-to.from c.first-item.result rest c.loop-to.to-index c.loop-to.sum _ c.loop-to-test.false c.loop-to.invariant.whole in
    record {
      value = ap (λ n. c.loop-to.sum + n) c.swept_by.ensures.value ∙ last ∙ ap (λ walk. sum_by f (edges walk)) is;
      bound = omega (arith, ap length is, c.loop-to.invariant.bound, c.loop-to.auto.to-index-end, c.swept_by.ensures.bound);
    }
