use Rattle.kit_words.proofs.Common.{◌≡◌, drop, map, unsigned_abs}
use Rattle.grid_reader.specs.Common.{greatest_from, fine_seen}
use Rattle.grid_reader.proofs.grid.furthest_in_arc.Given as goal

abbrev pub invariant-loop-pos : goal.invariant-loop-pos
invariant-loop-pos l = greatest_from unsigned_abs l.far (map fine_seen (drop l.pos-index l.arc)) ≡ greatest_from unsigned_abs l.fn.before (map fine_seen l.fn.arc)
