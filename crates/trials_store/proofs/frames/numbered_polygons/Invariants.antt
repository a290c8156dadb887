use Rattle.std.proofs.Common.{◌≡◌, length}
use Rattle.trials_store.proofs.frames.numbered_polygons.Given as goal

-- numbers of as many polygons as were passed
abbrev pub invariant-loop-polygon : goal.invariant-loop-polygon
invariant-loop-polygon l = length l.numbers.items ≡ l.polygon-index
