use Rattle.kit_words.proofs.Common.{◌≡◌, ◌<◌, ◌+◌, length}
use Rattle.feature_exchange.proofs.RingAround.{IsLowest}
use Rattle.feature_exchange.proofs.ring_iter.least_place.Given as goal

abbrev pub invariant-loop-k : goal.invariant-loop-k
invariant-loop-k g l = record {
  lowest : IsLowest l.vertices l.fn.first l.yielded l.lowest l.place;
  within : l.place < l.count;
  counted : l.count ≡ 1 + length l.yielded;
}
