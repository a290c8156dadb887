use Rattle.kit_words.proofs.Common.{◌≡◌, map, drop, None}
use Rattle.topo_reader.specs.Common.{ends, arc_of}
use Rattle.topo_reader.proofs.rings.ends.Given as goal

abbrev pub invariant-loop-one : goal.invariant-loop-one
invariant-loop-one l = ends l.last (map arc_of (drop l.one-index l.uses)) ≡ ends None (map arc_of l.fn.uses)
