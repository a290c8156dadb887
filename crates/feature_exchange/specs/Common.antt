-- The words of this crate that others cite most, passed on from one place. Declares nothing.
pub use Rattle.feature_exchange.specs.Along.{AlongVertices, ring_in}
pub use Rattle.feature_exchange.specs.Changed.{MayGrow, changed_as, feature_seen, frame_after, next_after}
pub use Rattle.feature_exchange.specs.Changed.{number_after, places_after, seen, trees_after}
pub use Rattle.feature_exchange.specs.Holds.{Holds, IsIndexed, IsWhole, Visits}
pub use Rattle.feature_exchange.specs.Laid.{AreAdded, AreGone, AreThere, KeepsPlaces, LeavesVisited, numbers_of}
pub use Rattle.feature_exchange.specs.Laying.{AreLaid, LaysMore, asked, asked_rings, length_of, polygons_in}
pub use Rattle.feature_exchange.specs.Marked.{MarksAlong, is_meeting, meets}
pub use Rattle.feature_exchange.specs.Ready.{FitsForm, IsReady, all_had, all_numbered, change_had, coming, had}
pub use Rattle.feature_exchange.specs.Ready.{numbered, put_in, rings_in}
pub use Rattle.feature_exchange.specs.RingPlaces.{IsAround, positions_left}
pub use Rattle.feature_exchange.specs.Stored.{Stored, stored_document, edges_under, positions_along, ring_under, stored}
pub use Rattle.feature_exchange.specs.Stored.{stored_in}
pub use Rattle.feature_exchange.specs.Under.{feature_polygons, rings_under}
pub use Rattle.feature_exchange.specs.declared.change.Change.{Change}
pub use Rattle.feature_exchange.specs.declared.change.WholeFeature.{WholeFeature}
pub use Rattle.feature_exchange.specs.declared.laid.LaidRing.{LaidRing}
