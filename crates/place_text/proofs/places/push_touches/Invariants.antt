use Rattle.kit_words.proofs.Common.{◌≡◌, ◌++◌, take}
use Rattle.walk_faults.specs.Common.{flat_map_at}
use Rattle.place_text.specs.Common.{touch_place}
use Rattle.place_text.proofs.places.push_touches.Given as goal

-- the places so far
abbrev pub invariant-loop-number : goal.invariant-loop-number
invariant-loop-number g l = l.places.items ≡ l.fn.places.items ++ flat_map_at touch_place 0 (take l.number l.touches)
