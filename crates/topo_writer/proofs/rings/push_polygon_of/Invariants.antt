use Rattle.kit_words.proofs.Common.{◌≡◌, ◌++◌, take, drop, codes}
use Rattle.ring_machine.specs.Common.{is_junction}
use Rattle.topo_writer.specs.Common.{rings_at, arcs_in, FindsArcs, HasRoom, TakesRings, written_rings}
use Rattle.topo_writer.proofs.rings.push_polygon_of.Given as goal

abbrev pub invariant-loop-ring : goal.invariant-loop-ring
invariant-loop-ring g l = record {
  table : FindsArcs l.map l.arcs;
  few : HasRoom l.map l.arcs (drop l.ring (rings_at l.map l.n l.polygon));
  arcs : TakesRings l.map l.fn.arcs l.arcs (take l.ring (rings_at l.map l.n l.polygon));
  text : l.text.items ≡ (l.fn.text.items ++ codes "[") ++ written_rings (is_junction l.map) (arcs_in l.map l.arcs) (take l.ring (rings_at l.map l.n l.polygon));
}
