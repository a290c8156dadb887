use Rattle.kit_words.proofs.Common.{◌≡◌, map, take, false, ◌||◌, list_any}
use Rattle.ring_machine.specs.Common.{has}
use Rattle.ring_parts.proofs.cut.ends_in_holes.Given as goal

-- none so far
abbrev pub invariant-loop-hole : goal.invariant-loop-hole
invariant-loop-hole g l = list_any (λ h. has h l.path.first || has h l.path.last) (map (λ r. r.items) (take l.hole-index l.holes)) ≡ false
