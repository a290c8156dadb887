use Rattle.kit_words.proofs.Common.{◌≡◌, arith, None, sym}
use Rattle.grid_geometry.specs.Common.{segment}
use Rattle.segment_index.specs.Common.{times_by}
use Rattle.local_planarity.specs.Common.{EndingAt, tried}
use Rattle.local_planarity.proofs.Counts.{tests_to_conflict-le}
use Rattle.local_planarity.proofs.Sweeping.{crosses_is}
use Rattle.local_planarity.proofs.Nearby.{near_few, near_listed, held_has}
use Rattle.local_planarity.proofs.sweeps.crosses_on_way.Goals as goal

pub returns : goal.returns
returns g c =
    let held = c.args.near.now in
    let way = c.unwrap-way.result in
    let near = tried (EndingAt c.args.p) way c.segments.result.now in
    let there = near_listed held (EndingAt c.args.p) way c.segments.result.now c.segments.ensures.held c.segments.ensures.single in
    let is : way ≡ segment c.args.p c.args.q = rw c.unwrap-way.ensures at c.new.ensures.some in
    record {
      crosses = λ ss e. rw (sym is) (crosses_is held (times_by None) c.args.p way near ss c.conflicts_with.result there c.conflicts_with.ensures.some e);
      few = λ ss e. rw (sym is) (omega (arith, c.conflicts_with.ensures.few, tests_to_conflict-le way near, near_few held (times_by None) (EndingAt c.args.p) way near ss there (held_has held (EndingAt c.args.p) ss e)));
    }
