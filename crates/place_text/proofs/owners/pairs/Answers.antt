use Rattle.kit_words.proofs.Common.{sym, ap, ◌∙◌, subst, map, take_all}
use Rattle.place_text.specs.Common.{pair_features, numbers_held, AnswersBoth}
use Rattle.place_text.proofs.Unions.{pair_step}
use Rattle.place_text.proofs.owners.pairs.Goals as goal

pub loop-pair-preserved : goal.loop-pair-preserved
loop-pair-preserved g c = λ features all.
    let i = c.loop-pair.pair-index in
    let pair = c.pair-item.result in
    let segments = c.args.tables.now.segments in
    let both = subst (AnswersBoth features segments) (sym c.pair-item.is) (all i pair c.loop-pair-test.true) in
    pair_step numbers_held features c.args.crossings.now i pair c.numbers_at-first.result.now c.numbers_at-second.result.now
    c.loop-pair.pairs.items c.push.new.self.items c.in_ok-union.field-0
    c.loop-pair-test.true c.pair-item.is (c.numbers_at-first.ensures ∙ both.0) (c.numbers_at-second.ensures ∙ both.1)
    c.in_ok-union.ensures (c.loop-pair.invariant features all) c.in_ok-push.ensures.items

pub returns : goal.returns
returns g c = λ features all.
    c.loop-pair.invariant features all ∙ ap (map (pair_features features)) (take_all c.loop-pair.pair-index c.args.crossings.now c.loop-pair-test.false)
