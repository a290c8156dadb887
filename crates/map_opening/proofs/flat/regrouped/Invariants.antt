use Rattle.kit_words.proofs.Common.{◌≡◌, ◌++◌, take, drop}
use Rattle.map_opening.specs.Common.{rings_of_features, shape_of, ring_count, lists_seen, numbers_seen}
use Rattle.map_opening.proofs.flat.regrouped.Given as goal

-- the features so far
abbrev pub invariant-loop-counts : goal.invariant-loop-counts
invariant-loop-counts g l = record {
  all : rings_of_features (numbers_seen l.features.items) ++ drop l.next l.numbers ≡ l.numbers;
  alike : shape_of (numbers_seen l.features.items) ≡ lists_seen (take l.counts-index l.shape);
  next : l.next ≡ ring_count (lists_seen (take l.counts-index l.shape));
}
