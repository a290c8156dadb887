use Rattle.kit_words.proofs.Common.{◌≡◌, ◌++◌, take, map}
use Rattle.map_drawing.specs.Common.{points_of, rings_path}
use Rattle.map_drawing.proofs.paths.push_rings.Given as goal

-- the rings so far
abbrev pub invariant-loop-ring : goal.invariant-loop-ring
invariant-loop-ring g l =
    l.text.items ≡ l.fn.text.items ++ rings_path (map points_of (take l.ring-index l.rings))
