use Rattle.kit_words.proofs.Common.{◌≡◌, ◌≤◌, length}
use Rattle.ring_store.specs.Common.{keys_left}
use Rattle.ring_store.proofs.ring_keys.RingKeysIterator.next.Given as goal

abbrev pub invariant-loop-self : goal.invariant-loop-self
invariant-loop-self g l =
    let s = l.self-inside in
    let t = l.initial.self-inside in
    (1 ≤ s.at) × (keys_left s.arcs.now s.uses.now s.path.now s.back s.at ≡ keys_left t.arcs.now t.uses.now t.path.now t.back t.at)

abbrev pub decreases-loop-self : goal.decreases-loop-self
decreases-loop-self g l = length l.self-inside.uses.now
