use Rattle.kit_words.proofs.Common.{◌≡◌, ◌≤◌, ◌*◌, ◌+◌, ◌-ℤ◌, unsigned_abs, length, map, take, fold, sum_by}
use Rattle.ring_machine.specs.Common.{absolute_area}
use Rattle.layer_faces.proofs.Counting.{positions_of}
use Rattle.layer_faces.proofs.rings.polygon_area.Given as goal

-- the area less the holes so far, and how large it may be
abbrev pub invariant-loop-hole : goal.invariant-loop-hole
invariant-loop-hole g l = record {
  whole : l.area ≡ fold (λ so_far hole. so_far -ℤ absolute_area hole) l.initial.area (map positions_of (take l.hole-index l.holes));
  bound : unsigned_abs l.area ≤ unsigned_abs l.initial.area + 2000000000000000000000000 * sum_by length (map positions_of (take l.hole-index l.holes));
}
