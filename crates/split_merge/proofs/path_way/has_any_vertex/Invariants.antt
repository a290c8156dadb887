use Rattle.kit_words.proofs.Common.{◌≡◌, take, false, list_any}
use Rattle.ring_machine.specs.Common.{is_vertex}
use Rattle.split_merge.proofs.path_way.has_any_vertex.Given as goal

-- none so far
abbrev pub invariant-loop-pos : goal.invariant-loop-pos
invariant-loop-pos g l = list_any (is_vertex l.map.doc) (take l.pos-index l.positions) ≡ false
