use Rattle.kit_words.proofs.Common.{◌≡◌, map, take, false, list_any}
use Rattle.ring_machine.specs.Common.{is_cut_by}
use Rattle.ring_parts.specs.Common.{path_seen, rings_seen}
use Rattle.ring_parts.proofs.cut.first_cut.Given as goal

-- none so far
abbrev pub invariant-loop-place : goal.invariant-loop-place
invariant-loop-place g l = list_any (is_cut_by (path_seen l.path)) (map (λ p. rings_seen p.items) (take l.place l.polygons)) ≡ false
