-- The words of this crate that others cite most, passed on from one place. Declares nothing.
pub use Rattle.topo_reader.specs.Arcs.{Arc, origin}
pub use Rattle.topo_reader.specs.Document.{IsOf, IsOfRings, IsOfWalks, Opened, Polygons, document_of, is_simple}
pub use Rattle.topo_reader.specs.Document.{is_walk}
pub use Rattle.topo_reader.specs.DocumentView.{view_raw}
pub use Rattle.topo_reader.specs.Extent.{box_with, extent_of, widened}
pub use Rattle.topo_reader.specs.Indexes.{arc_named, index, index_from}
unfoldable pub use Rattle.topo_reader.specs.Indexes.{polygon, polygons, ring, uses_of}
pub use Rattle.topo_reader.specs.Opening.{IsFault, IsFaultIn, Opens, OpensBy, OpensIn, OpensWalks, opening}
pub use Rattle.topo_reader.specs.Opening.{polygons_along, polygons_read, root_of, walks_read}
pub use Rattle.topo_reader.specs.Plain.{PlainArc, PlainDigits, PlainFront, PlainNumber, PlainStep, is_plain, nodes_from}
pub use Rattle.topo_reader.specs.PlainList.{Begins, PlainItem, PlainItems}
pub use Rattle.topo_reader.specs.Positions.{arcs, before_next, coordinate, has_two, is_within, pair_of, summed, two_of}
unfoldable pub use Rattle.topo_reader.specs.Positions.{arc, position, positions}
pub use Rattle.topo_reader.specs.Reads.{AreArcs, AreClosed, ArePositions, AreRings, Chain, Fits, GeometryUses, IsArc}
pub use Rattle.topo_reader.specs.Reads.{IsClosed, IsRing, IsSum, IsUse, IsWalk, Leads, Once, PolygonUses, Reads}
pub use Rattle.topo_reader.specs.Reads.{ReadsBy, ReadsWalks, ReadsWith, RingUses, Sums, along, around, backward}
pub use Rattle.topo_reader.specs.Reads.{forward, last, next, no_pair, none, nowhere, pair, same, there}
pub use Rattle.topo_reader.specs.Rings.{closed_of, distinct, first_of, front, is_at, joined, last_of, meet, simple}
pub use Rattle.topo_reader.specs.Rings.{starts_at, unless}
unfoldable pub use Rattle.topo_reader.specs.Rings.{all_of, all_rings, ends, feature_of, first_repeat, last_after}
unfoldable pub use Rattle.topo_reader.specs.Rings.{meet_from, polygon_of, ring_of, squeezed, walk_of}
pub use Rattle.topo_reader.specs.Sizes.{feature_size, polygon_size, ring_size, size}
pub use Rattle.topo_reader.specs.Uses.{arc_of, feature_corners, feature_positions, feature_uses, polygon_corners}
pub use Rattle.topo_reader.specs.Uses.{polygon_positions, polygon_uses, positions_of, ring_uses}
pub use Rattle.topo_reader.specs.declared.indexes.Use.{Use}
pub use Rattle.topo_reader.specs.declared.rings.Closed.{Closed}
pub use Rattle.topo_reader.specs.declared.rings.Closed.TheVariants.{Rings, Walks}
