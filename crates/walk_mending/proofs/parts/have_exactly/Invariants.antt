use Rattle.kit_words.proofs.Common.{◌≡◌, take, flat_map}
use Rattle.walk_faults.specs.Common.{walk_segments}
use Rattle.walk_mending.specs.Common.{rings_of_parts}
use Rattle.ring_parts.specs.Common.{polygons_seen}
use Rattle.walk_mending.proofs.parts.have_exactly.Given as goal

-- those of the parts so far
abbrev pub invariant-loop-part : goal.invariant-loop-part
invariant-loop-part g l = l.segments.items ≡ flat_map walk_segments (rings_of_parts (polygons_seen (take l.part-index l.parts)))
