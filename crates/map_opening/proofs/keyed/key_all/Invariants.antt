use Rattle.kit_words.proofs.Common.{take}
use Rattle.vertex_index.specs.Common.{AreDistinct}
use Rattle.ring_parts.specs.Common.{rings_seen}
use Rattle.ring_store.proofs.Common.{AreRead, keyed_at}
use Rattle.map_opening.specs.Common.{lists_seen}
use Rattle.map_opening.proofs.keyed.key_all.Given as goal

-- the rings so far
abbrev pub invariant-loop-ring : goal.invariant-loop-ring
invariant-loop-ring g l = record {
  read : AreRead keyed_at (λ keys. keys) l.initial.vertices l.vertices (lists_seen l.keyed.items) (rings_seen (take l.ring-index l.rings));
  distinct : AreDistinct l.vertices;
}
