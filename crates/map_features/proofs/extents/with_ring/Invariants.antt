use Rattle.kit_words.proofs.Common.{take, All}
use Rattle.map_features.specs.Common.{IsWithin}
use Rattle.map_features.proofs.WithinLemmas.{Wider}
use Rattle.map_features.proofs.extents.with_ring.Given as goal

-- the bounds have the positions so far
abbrev pub invariant-loop-pos : goal.invariant-loop-pos
invariant-loop-pos l = record {
  new : All (IsWithin l.bounds) (take l.pos-index l.ring);
  kept : Wider l.fn.before l.bounds;
}
