use Rattle.kit_words.proofs.Common.{◌≡◌, map, drop}
use Rattle.topo_reader.specs.Common.{meet_from, arc_of}
use Rattle.topo_reader.proofs.rings.meet_from.Given as goal

abbrev pub invariant-loop-one : goal.invariant-loop-one
invariant-loop-one l = meet_from l.last (map arc_of (drop l.one-index l.uses)) ≡ meet_from l.fn.before (map arc_of l.fn.uses)
