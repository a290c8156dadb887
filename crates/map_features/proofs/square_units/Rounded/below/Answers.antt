use Rattle.kit_words.proofs.Common.{◌+◌, ◌-◌, ap, arith, sym, ◌∙◌, nat_le}
use Rattle.map_features.specs.SquareUnits.{cut_often}
use Rattle.map_features.proofs.RoundedLemmas.{none_left, one_less}
use Rattle.map_features.proofs.square_units.Rounded.below.Goals as goal

pub loop-digit-preserved : goal.loop-digit-preserved
loop-digit-preserved c =
    ap (λ r. cut_often (nat_le c.args.most) (40 - (c.loop-digit._digit + 1)) r) c.cut-number.ensures
    ∙ (one_less (nat_le c.args.most) 40 c.loop-digit._digit c.loop-digit.number (omega arith) ∙ c.loop-digit.invariant)

pub returns : goal.returns
returns c = sym (none_left (nat_le c.args.most) 40 c.loop-digit._digit c.loop-digit.number (omega arith)) ∙ c.loop-digit.invariant
