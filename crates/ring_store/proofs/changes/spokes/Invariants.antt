use Rattle.kit_words.proofs.Common.{◌≡◌, take}
use Rattle.ring_store.specs.Common.{spokes}
use Rattle.ring_store.proofs.changes.spokes.Given as goal

-- the segments so far
abbrev pub invariant-loop-x : goal.invariant-loop-x
invariant-loop-x g l = l.segments.items ≡ spokes l.p (take l.x-index l.around)
