use Rattle.kit_words.proofs.Common.{ap, ◌∙◌, arith, take_all}
use Rattle.edit_records.specs.Common.{weights}
use Rattle.feature_exchange.specs.Common.{seen}
use Rattle.feature_exchange.proofs.ChangesCounted.{weight_any, seen_few, seen_more}
use Rattle.feature_exchange.proofs.counting.count_changes.Goals as goal

pub count_feature-count-requires : goal.count_feature-count-requires
count_feature-count-requires g c =
    let x = c.change-item.result in
    let any = weight_any x.number x.was in
    let few = seen_few c.args.changes.now c.loop-change.change-index x c.loop-change-test.true c.change-item.is in
    omega (arith, any, few, c.requires)

pub overflow_add-count : goal.overflow_add-count
overflow_add-count g c =
    let x = c.change-item.result in
    let any = weight_any x.number x.was in
    let few = seen_few c.args.changes.now c.loop-change.change-index x c.loop-change-test.true c.change-item.is in
    omega (arith, any, few, c.requires, c.loop-change.invariant, c.count_feature-count.ensures)

pub loop-change-preserved : goal.loop-change-preserved
loop-change-preserved g c =
    let x = c.change-item.result in
    let any = weight_any x.number x.was in
    let more = seen_more c.args.changes.now c.loop-change.change-index x c.loop-change-test.true c.change-item.is in
    omega (arith, any, more, c.loop-change.invariant, c.count_feature-count.ensures)

pub returns : goal.returns
returns g c =
    c.loop-change.invariant
    ∙ ap (λ z. weights (seen z)) (take_all c.loop-change.change-index c.args.changes.now c.loop-change-test.false)
