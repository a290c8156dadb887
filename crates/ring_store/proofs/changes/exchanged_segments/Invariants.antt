use Rattle.kit_words.proofs.Common.{◌≡◌, take}
use Rattle.ring_store.specs.Common.{comings, goings}
use Rattle.ring_store.proofs.changes.exchanged_segments.Given as goal

-- the segments so far
abbrev pub invariant-loop-r : goal.invariant-loop-r
invariant-loop-r g l = record {
  coming : l.coming.items ≡ comings (take l.r-index l.removals);
  going : l.going.items ≡ goings (take l.r-index l.removals);
}
