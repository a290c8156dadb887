use Rattle.kit_words.proofs.Common.{take, All}
use Rattle.map_features.specs.Common.{RingIn}
use Rattle.map_features.proofs.WithinLemmas.{Wider}
use Rattle.map_features.proofs.extents.with_rings.Given as goal

-- the bounds have the rings so far
abbrev pub invariant-loop-ring : goal.invariant-loop-ring
invariant-loop-ring g l = record {
  new : All (RingIn l.bounds) (take l.ring-index l.rings);
  kept : Wider l.fn.before l.bounds;
}
