use Rattle.kit_words.proofs.Common.{◌≡◌, map, drop, ◌++◌}
use Rattle.topo_reader.specs.Common.{all_of, arc_of}
use Rattle.topo_reader.proofs.rings.joined.Given as goal

abbrev pub invariant-loop-one : goal.invariant-loop-one
invariant-loop-one g l = l.ring.items ++ all_of (map arc_of (drop l.one-index l.uses)) ≡ all_of (map arc_of l.fn.uses)
