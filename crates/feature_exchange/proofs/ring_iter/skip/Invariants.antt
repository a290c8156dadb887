use Rattle.kit_words.proofs.Common.{◌≡◌, drop}
use Rattle.feature_exchange.proofs.ring_iter.skip.Given as goal

abbrev pub invariant-loop : goal.invariant-loop
invariant-loop g l = l.keys ≡ drop l.counter l.fn.keys
