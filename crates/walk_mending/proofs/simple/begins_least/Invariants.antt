use Rattle.kit_words.proofs.Common.{◌≡◌, true, take, list_all}
use Rattle.grid_geometry.specs.Common.{position_lt}
use Rattle.walk_mending.proofs.simple.begins_least.Given as goal

-- all so far
abbrev pub invariant-loop-pos : goal.invariant-loop-pos
invariant-loop-pos l = list_all (position_lt l.first) (take l.pos-index l.rest) ≡ true
