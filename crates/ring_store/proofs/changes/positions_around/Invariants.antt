use Rattle.kit_words.proofs.Common.{◌≡◌, take, map}
use Rattle.vertex_index.specs.Common.{place}
use Rattle.ring_store.proofs.changes.positions_around.Given as goal

-- the positions so far
abbrev pub invariant-loop-x : goal.invariant-loop-x
invariant-loop-x g l = l.around.items ≡ map (place l.tables.vertices) (take l.x-index l.x-items)
