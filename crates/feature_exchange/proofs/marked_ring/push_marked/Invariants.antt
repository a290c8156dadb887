use Rattle.kit_words.proofs.Common.{◌≡◌, ◌++◌, map, take}
use Rattle.vertex_index.specs.Common.{place}
use Rattle.feature_exchange.specs.Common.{meets}
use Rattle.feature_exchange.proofs.marked_ring.push_marked.Given as goal

abbrev pub invariant-loop-k : goal.invariant-loop-k
invariant-loop-k g l = record {
  positions : l.positions.items ≡ l.fn.positions.items ++ map (place l.vertices) (take l.k-index l.keys);
  marks : l.marks.items ≡ l.fn.marks.items ++ map (meets l.meetings) (take l.k-index l.keys);
}
