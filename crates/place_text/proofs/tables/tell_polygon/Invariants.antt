use Rattle.kit_words.proofs.Common.{take, flat_map}
use Rattle.walk_faults.specs.Common.{walk_segments}
use Rattle.place_text.specs.Common.{Tells}
use Rattle.ring_parts.specs.Common.{rings_seen}
use Rattle.place_text.proofs.tables.tell_polygon.Given as goal

-- the walks so far are reported
abbrev pub invariant-loop-ring : goal.invariant-loop-ring
invariant-loop-ring g l =
    Tells l.feature (flat_map (λ walk. walk) (rings_seen (take l.ring-index l.rings))) (flat_map walk_segments (rings_seen (take l.ring-index l.rings))) l.fn.tables l.tables
