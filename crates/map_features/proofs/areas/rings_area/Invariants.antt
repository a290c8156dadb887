use Rattle.kit_words.proofs.Common.{◌≡◌, ◌-ℤ◌, take, map, fold}
use Rattle.ring_machine.specs.Common.{absolute_area}
use Rattle.topo_reader.specs.Common.{positions_of}
use Rattle.map_features.proofs.areas.rings_area.Given as goal

-- the area less the holes so far
abbrev pub invariant-loop-hole : goal.invariant-loop-hole
invariant-loop-hole g l =
    l.area ≡ fold (λ so_far hole. so_far -ℤ absolute_area hole) l.initial.area (map positions_of (take l.hole-index l.holes))
