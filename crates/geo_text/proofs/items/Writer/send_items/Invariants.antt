use Rattle.kit_words.proofs.Common.{map, take}
use Rattle.topo_outline.specs.Common.{view_item}
use Rattle.topo_reader.specs.Common.{feature_positions}
use Rattle.geo_text.specs.Seen.{view_progress}
use Rattle.geo_features.specs.Seen.{view_style}
use Rattle.geo_text.proofs.ItemsSent.{AreSent}
use Rattle.geo_text.proofs.items.Writer.send_items.Given as goal

abbrev pub invariant-loop-item : goal.invariant-loop-item
invariant-loop-item g l = AreSent g.W.Sink l.self.flattens (view_style l.self.style) (map feature_positions l.self.polygons.now) l.fn.at.leaf (view_progress l.fn.at) (map view_item (take l.item-index l.items)) l.fn.out l.out (view_progress l.at) l.at.leaf
