use Rattle.kit_words.proofs.Common.{◌-◌, sym, ◌∙◌, length, take, drop}
use Rattle.ring_machine.specs.Common.{segment_of, is_segment}
use Rattle.ring_parts.proofs.Common.{way_on}
use Rattle.split_merge.proofs.PathSegments.{none_here}
use Rattle.split_merge.proofs.path_way.has_segment_along.Goals as goal

pub loop-to-preserved : goal.loop-to-preserved
loop-to-preserved g c =
    let rest = take (length c.args.positions.now - 1) (drop 1 c.args.positions.now) in
    record {
      left =
          none_here c.loop-to.from c.to-item.result rest c.loop-to.to-index c.loop-to-test.true c.to-item.is (λ e. is_segment c.args.map.now.doc (segment_of e)) (sym c.is_joined.ensures ∙ c.if-is_joined.false)
          ∙ c.loop-to.invariant.left;
      distinct = way_on c.loop-to.from c.to-item.result rest c.loop-to.to-index c.loop-to-test.true c.to-item.is c.loop-to.invariant.distinct;
    }
