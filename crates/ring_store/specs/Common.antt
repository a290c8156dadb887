-- The words of this crate that others cite most, passed on from one place. Declares nothing.
pub use Rattle.ring_store.specs.Changes.{HasBridging, HasMoving, IsBridging, IsMoving, IsParting, PutBetween, TakenOut}
pub use Rattle.ring_store.specs.Coming.{keys_left}
pub use Rattle.ring_store.specs.Counted.{Indexed}
pub use Rattle.ring_store.specs.Joined.{AreAllNeighbours, AreNeighbours, Joined, Passes, Three}
pub use Rattle.ring_store.specs.Keyed.{ArePut}
pub use Rattle.ring_store.specs.Listing.{ListsJoined, gathered, including_all}
pub use Rattle.ring_store.specs.Many.{AreKeyed, ArePlaceable, ArePutBack, comings, goings}
pub use Rattle.ring_store.specs.Neighbours.{SeesMore, ending, ends_among, ends_in, noted, noted_all, other_end, other_ends}
pub use Rattle.ring_store.specs.Planned.{AreAround, AreNew, ArePlaced, Drops, Exchanges, GainsSegments, spokes}
pub use Rattle.ring_store.specs.Round.{GoesRound, IsRound}
pub use Rattle.ring_store.specs.Shortest.{edge_count, edge_counts, least_number, less_of, most, rings_along, rings_of_arc, users_at}
pub use Rattle.ring_store.specs.Standing.{IsSide, IsVisited, Stands}
pub use Rattle.ring_store.specs.Steps.{AllRound, HoldsWith, sides}
pub use Rattle.ring_store.specs.Tables.{AreStanding, keyed_ring, ring_in}
pub use Rattle.ring_store.specs.declared.neighbours.Neighbours.{Neighbours}
pub use Rattle.ring_store.specs.declared.neighbours.Neighbours.TheVariants.{More, None, One, Two}
pub use Rattle.ring_store.specs.declared.removal.Removal.{Removal}
