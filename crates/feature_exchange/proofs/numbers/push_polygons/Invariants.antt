use Rattle.kit_words.proofs.Common.{◌≡◌, ◌++◌, take, flat_map}
use Rattle.map_frame.specs.Common.{polygon_numbers}
use Rattle.feature_exchange.proofs.numbers.push_polygons.Given as goal

-- the numbers of the polygons so far
abbrev pub invariant-loop-rings : goal.invariant-loop-rings
invariant-loop-rings g l =
    l.numbers.items ≡ l.fn.numbers.items ++ flat_map polygon_numbers (take l.rings-index l.polygons)
