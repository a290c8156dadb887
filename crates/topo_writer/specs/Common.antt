-- The words of this crate that others cite most, passed on from one place. Declares nothing.
pub use Rattle.topo_writer.specs.Faults.{of_device}
pub use Rattle.topo_writer.specs.Found.{Fits, at_place, first_edge, arc_found, found_from, last_edge, with_found}
pub use Rattle.topo_writer.specs.Items.{IsThere, LeadsOn, ShowsLayer, bare, feature_or_bare, item_at, item_rings, items_at}
pub use Rattle.topo_writer.specs.Items.{items_written, open_heads, written_at, written_item}
pub use Rattle.topo_writer.specs.Named.{arcs_along, listed_arcs, named_ring}
pub use Rattle.topo_writer.specs.Opened.{is_begin, more_after, open_after}
pub use Rattle.topo_writer.specs.Reading.{all_rings_at, polygons_at, positions_at, rings_at}
pub use Rattle.topo_writer.specs.Sections.{IsMapFrame, arcs_after, begin_text, end_text, layer_at, layer_rings}
pub use Rattle.topo_writer.specs.Sections.{layer_text, layers_text, middle_text}
pub use Rattle.topo_writer.specs.Tables.{Finds, FindsArcs, HasRoom, Leads, TakesItems, TakesRings, arcs_in}
pub use Rattle.topo_writer.specs.Ways.{ArePieces, FitAll, Rising, all_found, all_pieces, cut_between, cut_after}
pub use Rattle.topo_writer.specs.Ways.{indexes_found, is_done, written_feature, written_polygon, written_polygons}
pub use Rattle.topo_writer.specs.Ways.{written_ring, written_rings, written_shape}
pub use Rattle.topo_writer.specs.declared.arcs.Arcs.{Arcs}
pub use Rattle.topo_writer.specs.declared.fault.WriteFault.TheVariants.{Device, OutOfMemory}
