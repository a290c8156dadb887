use Rattle.kit_words.proofs.Common.{◌++◌, ◌∷◌, [], string_bytes, map-append, arith}
use Rattle.topo_outline.proofs.Naming.{one_more, tested, named_turn, named_again, named_stop, named_end}
use Rattle.topo_outline.proofs.layer_names.named.Goals as goal

pub returns-in-Err-clause-entries : goal.returns-in-Err-clause-entries
returns-in-Err-clause-entries g c = named_stop c.in-Err.fault _ _ _ _ _ _ c.in-Some.ensures.steps c.in-Err.ensures c.loop-member.invariant.2

pub returns-clause-entries : goal.returns-clause-entries
returns-clause-entries g c = named_end _ _ _ _ c.in-None.ensures.steps.0 c.loop-member.invariant.2

pub returns-then-not-new-clause-entries : goal.returns-then-not-new-clause-entries
returns-then-not-new-clause-entries g c = rw c.unquoted.ensures (named_again _ _ _ _ _ _ _ c.in-Some.ensures.steps c.in-Ok.ensures (tested _ _ _ _ _ c.loop-member.invariant.1 c.in_ok-new.ensures.new c.if-not-new.true) c.loop-member.invariant.2)

pub loop-member-preserved : goal.loop-member-preserved
loop-member-preserved g c = (
  c.loop-member.invariant.0 ++ string_bytes c.in-Ok.value ∷ [],
  one_more _ _ _ _ c.loop-member.invariant.1 c.in_ok-new.ensures.names,
  rw (c.in_ok-push.ensures.items, map-append, c.word_of-word.ensures, c.as_str.ensures.value) (named_turn _ _ _ _ _ _ _ c.in-Some.ensures.steps c.in-Ok.ensures (tested _ _ _ _ _ c.loop-member.invariant.1 c.in_ok-new.ensures.new c.if-not-new.false) c.loop-member.invariant.2),
  omega (arith, c.in_ok-new.ensures.len c.if-not-new.false, c.in_ok-push.ensures.len, c.loop-member.invariant.3),
)
