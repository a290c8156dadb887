use Rattle.kit_words.proofs.Common.{refl, ap, ◌∙◌, ◌++◌, get_or, take_all}
use Rattle.std.proofs.lemmas.List.{get_or_default}
use Rattle.layer_faces.specs.Holders.{features_of}
use Rattle.layer_faces.proofs.Cutting.{features_more}
use Rattle.layer_faces.proofs.features.push_features.Goals as goal

pub loop-n-preserved : goal.loop-n-preserved
loop-n-preserved g c =
    let i = c.loop-n.n-index in
    let n = get_or c.args.numbers.now i 0 in
    features_more c.args.owners.now c.args.numbers.now i n _ c.args.features.now.items c.loop-n.features.items _ c.loop-n-test.true
    (get_or_default c.args.numbers.now i 0 n c.loop-n-test.true) refl c.in_ok-push.ensures.items c.loop-n.invariant

pub returns : goal.returns
returns g c =
    c.loop-n.invariant ∙ ap (λ ns. c.args.features.now.items ++ features_of c.args.owners.now ns) (take_all c.loop-n.n-index c.args.numbers.now c.loop-n-test.false)
