use Rattle.kit_words.proofs.Common.{◌≡◌, drop, map}
use Rattle.decimal_texts.specs.Common.{decimals}
use Rattle.grid_reader.specs.Common.{greatest_from, fine_seen}
use Rattle.grid_reader.proofs.grid.most_in_arc.Given as goal

abbrev pub invariant-loop-pos : goal.invariant-loop-pos
invariant-loop-pos l = greatest_from decimals l.most (map fine_seen (drop l.pos-index l.arc)) ≡ greatest_from decimals l.fn.before (map fine_seen l.fn.arc)
