-- The words of this crate that others cite most, passed on from one place. Declares nothing.
pub use Rattle.ring_store.proofs.AddedRings.{distinct_more, ring_here, ring_other}
pub use Rattle.ring_store.proofs.Edges.{edge_joins, laid_edges, length-edges}
pub use Rattle.ring_store.proofs.KeyRings.{begins_edges, begins_round, beside_edges, edge_apart, edge_ends}
pub use Rattle.ring_store.proofs.KeyRings.{edge_in_canonical, edge_of_canonical, edge_times, edges_round, edges_swap}
pub use Rattle.ring_store.proofs.KeyRings.{ends_is_seg, goes_round, has_key, laid}
pub use Rattle.ring_store.proofs.KeyRings.{of_canonical, times_edge}
pub use Rattle.ring_store.proofs.KeyedLists.{AreRead, keyed_at, read_next, ring_stays, singles}
pub use Rattle.ring_store.proofs.Places.{IsKept, distinct_places, insert_other, kept_place, keys_distinct, one_key}
pub use Rattle.ring_store.proofs.Places.{place_alike, place_is, place_kept, remove_here, remove_other}
pub use Rattle.ring_store.proofs.Pushed.{at_contains, map_pushed}
pub use Rattle.ring_store.proofs.SegmentLists.{has-eq, has_all, or_nothing, segment_is-eq, single_all}
pub use Rattle.ring_store.proofs.Sums.{filter-mapped, sum_by-map, sum_more}
pub use Rattle.ring_store.proofs.Used.{first_of_two, second_of_two, used_side}
