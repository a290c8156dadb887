use Rattle.kit_words.proofs.Common.{◌≡◌, drop}
use Rattle.topo_reader.specs.Common.{widened}
use Rattle.topo_reader.proofs.extent.with_ring.Given as goal

abbrev pub invariant-loop-pos : goal.invariant-loop-pos
invariant-loop-pos l = widened l.rect (drop l.pos-index l.ring) ≡ widened l.fn.before l.fn.ring
