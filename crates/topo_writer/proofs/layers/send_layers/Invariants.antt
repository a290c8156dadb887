use Rattle.kit_words.proofs.Common.{◌≡◌, map, take}
use Rattle.device_io.specs.Common.{Took}
use Rattle.map_text.specs.Common.{commas}
use Rattle.topo_writer.specs.Common.{arcs_after, layer_text, arcs_in, FindsArcs}
use Rattle.topo_writer.proofs.layers.send_layers.Given as goal

abbrev pub invariant-loop-i : goal.invariant-loop-i
invariant-loop-i g l = record {
  took : Took g.W.Sink l.fn.out l.out (commas (map (layer_text l.map) (take l.i l.map.layers)));
  table : FindsArcs l.map l.arcs;
  arcs : arcs_in l.map l.arcs ≡ arcs_after l.map l.i;
}
