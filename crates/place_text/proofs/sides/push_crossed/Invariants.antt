use Rattle.kit_words.proofs.Common.{◌≡◌, ◌++◌, take}
use Rattle.walk_faults.specs.Common.{flat_map_at}
use Rattle.place_text.specs.Common.{crossing_sides}
use Rattle.place_text.proofs.sides.push_crossed.Given as goal

-- the segments so far
abbrev pub invariant-loop-number : goal.invariant-loop-number
invariant-loop-number g l = l.sides.items ≡ l.fn.sides.items ++ flat_map_at crossing_sides 0 (take l.number l.pairs)
