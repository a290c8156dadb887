use Rattle.kit_words.proofs.Common.{take}
use Rattle.place_text.specs.Common.{AreCrossings}
use Rattle.place_text.proofs.places.crossing_positions.Given as goal

-- the positions so far
abbrev pub invariant-loop-pair : goal.invariant-loop-pair
invariant-loop-pair g l = AreCrossings (take l.pair-index l.pairs) l.positions.items
