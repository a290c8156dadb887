use Rattle.kit_words.proofs.Common.{◌≡◌, ◌++◌, [], map, false}
use Rattle.device_io.specs.Common.{Took}
use Rattle.map_frame.specs.Common.{view_item_view}
use Rattle.map_text.specs.Common.{items_text}
use Rattle.topo_writer.specs.Common.{items_written, open_heads, more_after, open_after, FindsArcs, Leads, TakesItems}
use Rattle.topo_writer.proofs.items.send_items.Given as goal

abbrev pub invariant-loop-item : goal.invariant-loop-item
invariant-loop-item g l = record {
  all : l.fn.items ≡ map view_item_view l.yielded ++ l.item-iterator;
  table : FindsArcs l.map l.arcs;
  leads : Leads l.map l.arcs l.item-iterator;
  arcs : TakesItems l.map l.fn.arcs l.arcs (map view_item_view l.yielded);
  heads : open_heads l.heads.items ≡ open_after [] (items_written l.map (map view_item_view l.yielded));
  took : Took g.W.Sink l.fn.out l.out (items_text [] false (items_written l.map (map view_item_view l.yielded)));
  more : l.more ≡ more_after false (items_written l.map (map view_item_view l.yielded));
}
