use mir.Syntax.{w64}
use mir.Val.{SFits}
use Rattle.kit_words.proofs.Common.{◌+◌, ◌-◌, ◌*◌, ◌^◌, ◌∙◌, ap, min, pos, rules, to_z-of_z, ℕ}
use Rattle.map_drawing.proofs.LabelLemmas.{nearest}
use Rattle.map_drawing.proofs.labels.width_of.Goals as goal

pub returns : goal.returns
returns c =
    let fits : SFits w64 c.unwrap_or.result = search rules in
    to_z-of_z w64 c.unwrap_or.result fits
    ∙ (nearest (720 * (c.letters.result + 1)) c.try_from.result c.unwrap_or.result c.try_from.ensures c.unwrap_or.ensures
    ∙ ap (λ (n : ℕ). pos (min (720 * (n + 1)) (2 ^ 63 - 1))) c.letters.ensures.drawn)
