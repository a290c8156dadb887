use Rattle.kit_words.proofs.Common.{◌≡◌, ◌+◌, drop, length, map, filter}
use Rattle.grid_reader.specs.Common.{is_moved, fine_seen}
use Rattle.grid_reader.proofs.grid.moved_in_arc.Given as goal

abbrev pub invariant-loop-pos : goal.invariant-loop-pos
invariant-loop-pos l = l.count + length (filter (is_moved l.digits) (map fine_seen (drop l.pos-index l.arc))) ≡ l.fn.before + length (filter (is_moved l.digits) (map fine_seen l.fn.arc))
