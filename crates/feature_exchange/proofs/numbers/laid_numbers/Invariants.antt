use Rattle.kit_words.proofs.Common.{◌≡◌, take}
use Rattle.feature_exchange.specs.Common.{numbers_of}
use Rattle.feature_exchange.proofs.numbers.laid_numbers.Given as goal

-- the numbers so far
abbrev pub invariant-loop-ring : goal.invariant-loop-ring
invariant-loop-ring g l = l.numbers.items ≡ numbers_of (take l.ring-index l.laid)
