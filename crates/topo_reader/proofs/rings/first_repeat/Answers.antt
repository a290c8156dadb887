use Rattle.kit_words.proofs.Common.{◌∙◌, arith}
use Rattle.topo_reader.proofs.Seen.{is_new, noted, repeat_found, repeat_turn}
use Rattle.topo_reader.proofs.rings.first_repeat.Goals as goal

pub loop-pos-preserved : goal.loop-pos-preserved
loop-pos-preserved g c = repeat_turn c.loop-pos.seen.keys c.insert.new.self.keys c.args.ring.now c.loop-pos.pos-index c.pos-item.result c.in_ok-insert.field-0 (omega arith) c.pos-item.is c.if-not-branch.false (is_new c.in_ok-insert.field-0 c.loop-pos.seen c.pos-item.result c.in_ok-insert.ensures.added) (noted c.loop-pos.seen c.insert.new.self c.pos-item.result c.in_ok-insert.ensures.updates) ∙ c.loop-pos.invariant

pub returns-then-not-branch : goal.returns-then-not-branch
returns-then-not-branch g c = repeat_found c.loop-pos.seen.keys c.args.ring.now c.loop-pos.pos-index c.pos-item.result c.in_ok-insert.field-0 (omega arith) c.pos-item.is c.if-not-branch.true (is_new c.in_ok-insert.field-0 c.loop-pos.seen c.pos-item.result c.in_ok-insert.ensures.added) ∙ c.loop-pos.invariant
