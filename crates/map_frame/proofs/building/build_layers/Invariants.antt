use Rattle.map_frame.specs.Common.{progress}
use Rattle.map_frame.proofs.Built.{LayersSoFar}
use Rattle.map_frame.proofs.building.build_layers.Given as goal

-- with those that are left they are all layers
abbrev pub invariant-loop-raw : goal.invariant-loop-raw
invariant-loop-raw g l =
    LayersSoFar l.initial.raw-iterator (progress l.fn.gathered) l.raw-iterator l.layers.items (progress l.gathered)
