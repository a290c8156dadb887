use Rattle.kit_words.proofs.Common.{◌≡◌, ◌+◌, ◌-◌, ◌++◌, sym, ap, ◌∙◌, subst, refl, arith, option_to_list}
use Rattle.feature_exchange.specs.Common.{change_had}
use Rattle.feature_exchange.proofs.EachExchanged.{Halfway, halfway_first, step_ready, halfway_step, change_is, last, halfway_frame, halfway_had}
use Rattle.feature_exchange.proofs.exchanging.exchange_each.Goals as goal

pub loop-left-init : goal.loop-left-init
loop-left-init g c =
    halfway_first c.args.frame.now c.args.changes.now c.args.polygons.items c.args.numbers.items c.requires.ready c.requires.polygons c.requires.numbers _ refl

pub exchange_at-requires-clause-ready : goal.exchange_at-requires-clause-ready
exchange_at-requires-clause-ready g c =
    let left_is : c.loop-left.left ≡ (c.loop-left.left - 1) + 1 = omega (arith, c.loop-left-test.true) in
    let half = subst (Halfway c.args.frame.now c.args.changes.now c.args.polygons.items c.args.numbers.items c.loop-left.frame c.loop-left.changes c.loop-left.polygons.items c.loop-left.numbers.items) left_is c.loop-left.invariant in
    λ k e. step_ready c.args.frame.now c.args.changes.now c.args.polygons.items c.args.numbers.items c.requires.ready c.loop-left.frame c.loop-left.changes c.loop-left.polygons.items c.loop-left.numbers.items (c.loop-left.left - 1) half
    c.pop.new.self.items c.unwrap-read.result (c.pop.ensures.items ∙ ap (λ o. c.pop.new.self.items ++ option_to_list o) c.unwrap-read.ensures)
    c.pop-in-loop-left.new.self.items c.unwrap-came.result (c.pop-in-loop-left.ensures.items ∙ ap (λ o. c.pop-in-loop-left.new.self.items ++ option_to_list o) c.unwrap-came.ensures)
    k k e

pub loop-left-preserved : goal.loop-left-preserved
loop-left-preserved g c =
    let left_is : c.loop-left.left ≡ (c.loop-left.left - 1) + 1 = omega (arith, c.loop-left-test.true) in
    let half = subst (Halfway c.args.frame.now c.args.changes.now c.args.polygons.items c.args.numbers.items c.loop-left.frame c.loop-left.changes c.loop-left.polygons.items c.loop-left.numbers.items) left_is c.loop-left.invariant in
    let popped = c.pop.ensures.items ∙ ap (λ o. c.pop.new.self.items ++ option_to_list o) c.unwrap-read.ensures in
    let popped' = c.pop-in-loop-left.ensures.items ∙ ap (λ o. c.pop-in-loop-left.new.self.items ++ option_to_list o) c.unwrap-came.ensures in
    let x = (last c.args.frame.now c.args.changes.now c.args.polygons.items c.args.numbers.items c.requires.ready c.loop-left.frame c.loop-left.changes c.loop-left.polygons.items c.loop-left.numbers.items (c.loop-left.left - 1) half
    c.pop.new.self.items c.unwrap-read.result popped c.pop-in-loop-left.new.self.items c.unwrap-came.result popped').1 in
    let e = sym (change_is c.args.frame.now c.args.changes.now c.args.polygons.items c.args.numbers.items c.requires.ready c.loop-left.frame c.loop-left.changes c.loop-left.polygons.items c.loop-left.numbers.items (c.loop-left.left - 1) half
    c.pop.new.self.items c.unwrap-read.result popped c.pop-in-loop-left.new.self.items c.unwrap-came.result popped' x) in
    halfway_step c.args.frame.now c.args.changes.now c.args.polygons.items c.args.numbers.items c.requires.ready c.loop-left.frame c.loop-left.changes c.loop-left.polygons.items c.loop-left.numbers.items (c.loop-left.left - 1) half
    c.pop.new.self.items c.unwrap-read.result popped c.pop-in-loop-left.new.self.items c.unwrap-came.result popped'
    c.exchange_at.new.frame x x (change_had c.loop-left.frame.doc x c.unwrap-read.result) _ e (c.exchange_at.ensures.exchanged x e) refl (c.exchange_at.ensures.had x e)

pub returns-clause-exchanged : goal.returns-clause-exchanged
returns-clause-exchanged g c =
    halfway_frame c.args.frame.now c.args.changes.now c.args.polygons.items c.args.numbers.items c.loop-left.frame c.loop-left.changes c.loop-left.polygons.items c.loop-left.numbers.items c.loop-left.left c.loop-left.invariant
    (omega (arith, c.loop-left-test.false))

pub returns-clause-had : goal.returns-clause-had
returns-clause-had g c =
    halfway_had c.args.frame.now c.args.changes.now c.args.polygons.items c.args.numbers.items c.loop-left.frame c.loop-left.changes c.loop-left.polygons.items c.loop-left.numbers.items c.loop-left.left c.loop-left.invariant
    (omega (arith, c.loop-left-test.false))
