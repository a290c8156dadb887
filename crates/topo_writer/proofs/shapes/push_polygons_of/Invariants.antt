use Rattle.kit_words.proofs.Common.{◌≡◌, ◌++◌, take, drop, flat_map}
use Rattle.ring_machine.specs.Common.{is_junction}
use Rattle.topo_writer.specs.Common.{polygons_at, arcs_in, FindsArcs, HasRoom, TakesRings, written_polygons}
use Rattle.topo_writer.proofs.shapes.push_polygons_of.Given as goal

abbrev pub invariant-loop-polygon : goal.invariant-loop-polygon
invariant-loop-polygon g l = record {
  table : FindsArcs l.map l.arcs;
  few : HasRoom l.map l.arcs (flat_map (λ polygon. polygon) (drop l.polygon (polygons_at l.map l.n)));
  arcs : TakesRings l.map l.fn.arcs l.arcs (flat_map (λ polygon. polygon) (take l.polygon (polygons_at l.map l.n)));
  text : l.text.items ≡ l.fn.text.items ++ written_polygons (is_junction l.map) (arcs_in l.map l.arcs) (take l.polygon (polygons_at l.map l.n));
}
