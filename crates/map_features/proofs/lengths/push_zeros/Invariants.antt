use Rattle.kit_words.proofs.Common.{◌≡◌, ◌++◌}
use Rattle.map_features.specs.Amounts.{zeros}
use Rattle.map_features.proofs.lengths.push_zeros.Given as goal

-- the zeros so far
abbrev pub invariant-loop-zero : goal.invariant-loop-zero
invariant-loop-zero g l = l.text.items ≡ l.fn.text.items ++ zeros l._zero
