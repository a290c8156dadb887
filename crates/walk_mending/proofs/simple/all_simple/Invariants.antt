use Rattle.kit_words.proofs.Common.{◌≡◌, true, take, list_all}
use Rattle.topo_reader.specs.Common.{is_simple}
use Rattle.ring_parts.specs.Common.{rings_seen}
use Rattle.walk_mending.proofs.simple.all_simple.Given as goal

-- all so far
abbrev pub invariant-loop-walk : goal.invariant-loop-walk
invariant-loop-walk g l = list_all is_simple (rings_seen (take l.walk-index l.walks)) ≡ true
