use Rattle.kit_words.proofs.Common.{◌≡◌, ◌-◌}
use Rattle.map_features.specs.SquareUnits.{cut_often, ends_in_zero}
use Rattle.map_features.proofs.square_units.Rounded.trimmed.Given as goal

-- what is left to cut
abbrev pub invariant-loop-digit : goal.invariant-loop-digit
invariant-loop-digit l = cut_often ends_in_zero (40 - l._digit) l.number ≡ cut_often ends_in_zero 40 l.fn.self
