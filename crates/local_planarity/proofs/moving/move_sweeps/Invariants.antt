use Rattle.kit_words.proofs.Common.{◌≡◌, map, take, false, list_any}
use Rattle.grid_geometry.specs.Common.{segment}
use Rattle.ring_machine.specs.Common.{Document, positions, edge_sweeps}
use Rattle.segment_index.specs.Common.{SegmentSet}
use Rattle.local_planarity.specs.Common.{IsEnds, HasNearMove}
use Rattle.local_planarity.proofs.moving.move_sweeps.Given as goal

-- no edge so far sweeps over a position
abbrev pub invariant-loop-a : goal.invariant-loop-a
invariant-loop-a g l =
    (d : Document) (held : SegmentSet) → HasNearMove held l.p l.q (map (λ x. segment x l.q) l.around) l.near
    → IsEnds held (positions d) → list_any (edge_sweeps d l.p l.q) (take l.a-index l.around) ≡ false
