use Rattle.kit_words.proofs.Common.{◌≤◌, ◌∙◌, subst, sym, ap, length, arith, Contains}
use Rattle.arc_tables.specs.Common.{Edge, edges}
use Rattle.ring_store.proofs.Common.{length-edges}
use Rattle.feature_exchange.proofs.StillUsed.{used_none, used_more, used_whole}
use Rattle.feature_exchange.proofs.taking.all_used.Goals as goal

pub loop-at-init : goal.loop-at-init
loop-at-init g c = used_none c.args.borders.now (edges c.args.keys.now)

pub loop-at-preserved : goal.loop-at-preserved
loop-at-preserved g c =
    used_more c.args.borders.now (edges c.args.keys.now) c.loop-at.at c.edge_at-a.result
    (omega (arith, c.loop-at-test.true, length-edges c.args.keys.now c.requires)) c.edge_at-a.ensures c.loop-at.invariant
    (λ none. c.if-uses_along-eq0.false (c.uses_along.ensures ∙ none))

pub returns : goal.returns
returns g c =
    λ is. used_whole c.args.borders.now (edges c.args.keys.now) c.loop-at.at
    (omega (arith, c.loop-at-test.false, length-edges c.args.keys.now c.requires)) c.loop-at.invariant
