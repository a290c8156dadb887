use Rattle.kit_words.proofs.Common.{◌≡◌, drop}
use Rattle.decimal_texts.specs.Common.{decimals}
use Rattle.grid_reader.proofs.Greatest.{greatest_in}
use Rattle.grid_reader.proofs.grid.most_decimals.Given as goal

abbrev pub invariant-loop-arc : goal.invariant-loop-arc
invariant-loop-arc g l = greatest_in decimals l.most (drop l.arc-index l.arcs) ≡ greatest_in decimals 0 l.fn.arcs
