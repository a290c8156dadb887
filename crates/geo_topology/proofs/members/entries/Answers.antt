use Rattle.kit_words.proofs.Common.{rules, refl, ◌++◌, ◌∷◌, [], string_bytes, map-append}
use Rattle.topo_outline.proofs.Naming.{one_more, tested}
use Rattle.geo_topology.proofs.Naming.{named_turn, named_again, named_stop, named_end}
use Rattle.geo_topology.proofs.members.entries.Goals as goal

pub loop-member-init : goal.loop-member-init
loop-member-init g c = ([], λ t. rw c.new-seen.ensures.empty refl, search rules)

pub returns-in-Err : goal.returns-in-Err
returns-in-Err g c = named_stop c.in-Err.fault _ _ _ _ _ _ c.in-Some.ensures.steps c.in-Err.ensures c.loop-member.invariant.2

pub returns : goal.returns
returns g c = named_end _ _ _ _ c.in-None.ensures.steps.0 c.loop-member.invariant.2

pub returns-then-not-new : goal.returns-then-not-new
returns-then-not-new g c = rw c.unquoted.ensures (named_again _ _ _ _ _ _ _ c.in-Some.ensures.steps c.in-Ok.ensures (tested _ _ _ _ _ c.loop-member.invariant.1 c.in_ok-new.ensures.new c.if-not-new.true) c.loop-member.invariant.2)

pub loop-member-preserved : goal.loop-member-preserved
loop-member-preserved g c = (
  c.loop-member.invariant.0 ++ string_bytes c.in-Ok.value ∷ [],
  one_more _ _ _ _ c.loop-member.invariant.1 c.in_ok-new.ensures.names,
  rw (c.in_ok-push.ensures.items, map-append, c.word_of-word.ensures, c.as_str.ensures.value) (named_turn _ _ _ _ _ _ _ c.in-Some.ensures.steps c.in-Ok.ensures (tested _ _ _ _ _ c.loop-member.invariant.1 c.in_ok-new.ensures.new c.if-not-new.false) c.loop-member.invariant.2),
)
