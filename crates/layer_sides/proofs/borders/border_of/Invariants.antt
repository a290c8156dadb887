use Rattle.kit_words.proofs.Common.{◌≡◌, map, take}
use Rattle.layer_sides.specs.declared.standing.Standing.{Standing}
use Rattle.layer_sides.proofs.borders.border_of.Given as goal

-- the numbers so far
abbrev pub invariant-loop-x : goal.invariant-loop-x
invariant-loop-x g l = l.bounds.items ≡ map (λ (x : Standing). x.polygon) (take l.x-index l.own)
