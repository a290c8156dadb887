use Rattle.kit_words.proofs.Common.{◌≡◌, map, take}
use Rattle.ring_machine.specs.Common.{canonical}
use Rattle.ring_parts.specs.Common.{rings_seen}
use Rattle.walk_mending.proofs.mending.all_canonical.Given as goal

-- the walks so far
abbrev pub invariant-loop-walk : goal.invariant-loop-walk
invariant-loop-walk g l = rings_seen l.found.items ≡ map canonical (rings_seen (take l.walk-index l.walks))
