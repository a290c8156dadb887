use Rattle.kit_words.proofs.Common.{arith, map}
use Rattle.topo_reader.specs.Common.{arc_of}
use Rattle.topo_reader.proofs.Joining.{all_turn, all_end, joined_is, more_front, no_more}
use Rattle.topo_reader.proofs.rings.joined.Goals as goal

pub loop-one-preserved : goal.loop-one-preserved
loop-one-preserved g c = rw c.in_ok-put_use.ensures (more_front _ _ _ _ _ (all_turn c.args.uses.now c.loop-one.one-index c.one-item.result (omega arith) c.one-item.is) c.loop-one.invariant)

pub returns : goal.returns
returns g c =
    let all = no_more _ _ _ (all_end c.args.uses.now c.loop-one.one-index (omega arith)) c.loop-one.invariant in
    joined_is _ c.dedup.new.self.items c.pop.new.self.items (map arc_of c.args.uses.now) _ c.dedup.new.self.ok.0 all c.dedup.ensures.filtered c.pop.ensures.rest
