use Rattle.kit_words.proofs.Common.{◌≡◌, take}
use Rattle.edit_records.specs.Common.{weights}
use Rattle.feature_exchange.specs.Common.{seen}
use Rattle.feature_exchange.proofs.counting.count_changes.Given as goal

-- those of the changes so far
abbrev pub invariant-loop-change : goal.invariant-loop-change
invariant-loop-change g l = l.count ≡ weights (seen (take l.change-index l.changes))
