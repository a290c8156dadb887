use Rattle.kit_words.proofs.Common.{◌≡◌, ◌-◌, nat_le}
use Rattle.map_features.specs.SquareUnits.{cut_often}
use Rattle.map_features.proofs.square_units.Rounded.below.Given as goal

-- what is left to cut
abbrev pub invariant-loop-digit : goal.invariant-loop-digit
invariant-loop-digit l = cut_often (nat_le l.most) (40 - l._digit) l.number ≡ cut_often (nat_le l.most) 40 l.fn.self
