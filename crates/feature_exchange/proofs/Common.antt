-- The words of this crate that others cite most, passed on from one place. Declares nothing.
pub use Rattle.feature_exchange.proofs.Base.{AreJoined, Laid, begin_kept, document_ring, framed, joined_apart}
pub use Rattle.feature_exchange.proofs.Base.{joined_around, joined_at, joined_back, joined_differ, joined_kept}
pub use Rattle.feature_exchange.proofs.Base.{joined_segment, key_vertex, laid_ring, one_to, positions_distinct}
pub use Rattle.feature_exchange.proofs.Base.{positions_long, ring_is_ring, ring_laid, ring_under_is, rings_are}
pub use Rattle.feature_exchange.proofs.Base.{segment_between, segments_at, segments_to, sweeps_by_joined, vertex_key}
pub use Rattle.feature_exchange.proofs.Ends.{end_is, end_of_two, segment_ends, two_ends, two_positions}
pub use Rattle.feature_exchange.proofs.PolygonsRead.{along}
pub use Rattle.feature_exchange.proofs.Renaming.{named_document, named_holds, renamed_holds, rings-named}
