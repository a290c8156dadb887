use Rattle.kit_words.proofs.Common.{◌+◌, ◌-◌, ap, arith, sym, ◌∙◌}
use Rattle.map_features.specs.SquareUnits.{cut_often, ends_in_zero}
use Rattle.map_features.proofs.RoundedLemmas.{none_left, one_less}
use Rattle.map_features.proofs.square_units.Rounded.trimmed.Goals as goal

pub loop-digit-preserved : goal.loop-digit-preserved
loop-digit-preserved c =
    ap (λ r. cut_often ends_in_zero (40 - (c.loop-digit._digit + 1)) r) c.stripped-number.ensures
    ∙ (one_less ends_in_zero 40 c.loop-digit._digit c.loop-digit.number (omega arith) ∙ c.loop-digit.invariant)

pub returns : goal.returns
returns c = sym (none_left ends_in_zero 40 c.loop-digit._digit c.loop-digit.number (omega arith)) ∙ c.loop-digit.invariant
