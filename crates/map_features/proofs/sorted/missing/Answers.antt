use Rattle.kit_words.proofs.Common.{◌++◌, ◌∷◌, [], ap, ap₂, ◌∙◌, sym, not, list_any, take_all, mapped_more}
use Rattle.map_features.specs.Common.{missing_flags}
use Rattle.map_features.proofs.sorted.missing.Goals as goal

pub loop-x-preserved : goal.loop-x-preserved
loop-x-preserved g c =
    c.in_ok-push.ensures.items ∙ ap₂ (λ fs b. fs ++ not b ∷ []) c.loop-x.invariant c.has_sorted.ensures
    ∙ sym (mapped_more (λ x. not (list_any (λ y. g.T.PartialEq.eq y x) c.args.others.now)) c.args.these.now c.loop-x.x-index c.x-item.result c.loop-x-test.true c.x-item.is)

pub returns : goal.returns
returns g c =
    c.loop-x.invariant ∙ ap (missing_flags g.T.PartialEq.eq c.args.others.now) (take_all c.loop-x.x-index c.args.these.now c.loop-x-test.false)
