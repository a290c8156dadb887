use Rattle.decimal_texts.proofs.Walking.{value_there, value_later, no_value}
use Rattle.decimal_texts.proofs.geometries.value_in.Goals as goal

pub returns-then-named : goal.returns-then-named
returns-then-named c = value_there c.args.name.now _ _ _ _ _ c.in-Some.ensures.steps c.in_ok-named.ensures c.if-named.true c.loop-member.invariant

pub loop-member-preserved : goal.loop-member-preserved
loop-member-preserved c = value_later c.args.name.now _ _ _ _ _ c.in-Some.ensures.steps c.in_ok-named.ensures c.if-named.false c.loop-member.invariant

pub returns : goal.returns
returns c = no_value c.args.name.now _ _ c.in-None.ensures.steps.0 c.loop-member.invariant
