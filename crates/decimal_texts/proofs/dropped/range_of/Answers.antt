use Rattle.json_spans.specs.Common.{nodes}
use Rattle.decimal_texts.proofs.Ranging.{no_member, member_here, member_later, last_here, last_other}
use Rattle.decimal_texts.proofs.dropped.range_of.Goals as goal

pub returns-in-None : goal.returns-in-None
returns-in-None c = no_member c.args.name.now _ _ c.in-None.ensures.steps.0 c.members-left.ensures.value

pub returns-then-named : goal.returns-then-named
returns-then-named c = member_here c.args.name.now c.loop-next.before (nodes c.loop-next.member) (nodes c.in-Some-next.next) _ _ _ _ c.in-Some-next.ensures.steps c.in_ok-named.ensures c.if-named.true c.loop-next.invariant

pub loop-next-preserved : goal.loop-next-preserved
loop-next-preserved c = member_later c.args.name.now c.loop-next.before (nodes c.loop-next.member) (nodes c.in-Some-next.next) _ _ _ _ _ c.in-Some-next.ensures.steps c.in_ok-named.ensures c.if-named.false c.end_of.ensures c.loop-next.invariant

pub returns-then-last : goal.returns-then-last
returns-then-last c = last_here c.args.name.now c.loop-next.before (nodes c.loop-next.member) _ _ _ _ _ c.in-None-next.ensures.steps.0 c.in_ok-last.ensures c.if-last.true c.end_of-then-last.ensures c.behind.ensures c.loop-next.invariant

pub returns-else-last : goal.returns-else-last
returns-else-last c = last_other c.args.name.now c.loop-next.before (nodes c.loop-next.member) _ _ _ c.in-None-next.ensures.steps.0 c.in_ok-last.ensures c.if-last.false c.loop-next.invariant
