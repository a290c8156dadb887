use Rattle.kit_words.proofs.Common.{◌≡◌, ◌++◌, take}
use Rattle.ring_parts.specs.Common.{rings_seen}
use Rattle.ring_parts.proofs.joining.push_rings.Given as goal

-- the rings so far
abbrev pub invariant-loop-ring : goal.invariant-loop-ring
invariant-loop-ring g l =
    rings_seen l.found.items ≡ rings_seen l.fn.found.items ++ rings_seen (take l.ring-index l.rings)
