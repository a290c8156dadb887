use Rattle.kit_words.proofs.Common.{◌≡◌, length, take, sum_by}
use Rattle.ring_parts.specs.Common.{polygons_seen}
use Rattle.ring_parts.proofs.counting.count_all.Given as goal

-- those of the polygons so far
abbrev pub invariant-loop-rings : goal.invariant-loop-rings
invariant-loop-rings g l = l.count ≡ sum_by (sum_by length) (polygons_seen (take l.rings-index l.polygons))
