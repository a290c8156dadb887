use Rattle.kit_words.proofs.Common.{◌++◌, ◌∷◌, [], ap, append_assoc, sym, ◌∙◌}
use Rattle.map_features.specs.Amounts.{zeros}
use Rattle.map_features.proofs.DigitLemmas.{zeros_more}
use Rattle.map_features.proofs.lengths.push_zeros.Goals as goal

pub loop-zero-preserved : goal.loop-zero-preserved
loop-zero-preserved g c =
    c.in_ok-push.ensures.items ∙ (ap (λ t. t ++ 48 ∷ []) c.loop-zero.invariant
    ∙ (append_assoc c.args.text.now.items (zeros c.loop-zero._zero) (48 ∷ [])
    ∙ ap (λ z. c.args.text.now.items ++ z) (sym (zeros_more c.loop-zero._zero))))
