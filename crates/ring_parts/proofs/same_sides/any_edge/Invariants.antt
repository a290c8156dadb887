use Rattle.kit_words.proofs.Common.{◌≡◌, take, false, list_any}
use Rattle.ring_machine.specs.Common.{edge_eq}
use Rattle.ring_parts.proofs.same_sides.any_edge.Given as goal

-- none so far
abbrev pub invariant-loop-edge : goal.invariant-loop-edge
invariant-loop-edge l = list_any (λ e. list_any (edge_eq e) l.sorted) (take l.edge-index l.edges) ≡ false
