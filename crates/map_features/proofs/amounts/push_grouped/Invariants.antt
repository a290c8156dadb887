use Rattle.kit_words.proofs.Common.{◌≡◌, ◌++◌, drop}
use Rattle.map_features.specs.Amounts.{grouped}
use Rattle.map_features.proofs.amounts.push_grouped.Given as goal

-- the text so far, with the digits that are left
abbrev pub invariant-loop-index : goal.invariant-loop-index
invariant-loop-index g l = l.text.items ++ grouped (drop l.index l.digits) ≡ l.fn.text.items ++ grouped l.digits
