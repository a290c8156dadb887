use Rattle.kit_words.proofs.Common.{◌≡◌, ◌++◌, take, flat_map}
use Rattle.walk_faults.specs.Common.{walk_segments}
use Rattle.ring_parts.specs.Common.{rings_seen}
use Rattle.walk_mending.proofs.segments.push_all.Given as goal

-- the segments of the walks so far
abbrev pub invariant-loop-walk : goal.invariant-loop-walk
invariant-loop-walk g l =
    l.segments.items ≡ l.fn.segments.items ++ flat_map walk_segments (rings_seen (take l.walk-index l.walks))
