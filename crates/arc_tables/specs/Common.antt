-- The words of this crate that others cite most, passed on from one place. Declares nothing.
pub use Rattle.arc_tables.specs.Edited.{AreApart, ArePuts, Collapses, CollapsesAmong, IsOff, WerePut, collapsed, drawn}
pub use Rattle.arc_tables.specs.Edited.{gained, onto, over, taken_back, through, throughs}
pub use Rattle.arc_tables.specs.Rings.{Rings, begins, edges, has_segment, users_of}
pub use Rattle.arc_tables.specs.Sound.{HoldsOneMore, Sound, edges_in, rings_of}
pub use Rattle.arc_tables.specs.Stores.{Advances, AllDifferent, Doubles, EndsAt, GoesOn, HasRing, IsOpen, IsPlace}
pub use Rattle.arc_tables.specs.Stores.{IsPut, Known, Learns, Listed, ListsMore, SameKeys, SamePaths, SameRings}
pub use Rattle.arc_tables.specs.Stores.{SameUsers, StaysOrGoes, UnlistsOff, UnlistsOnly, Whole, including, path_in}
pub use Rattle.arc_tables.specs.Stores.{path_of, stand_at, store, store_of, users_in, uses_arc, uses_in, without}
pub use Rattle.arc_tables.specs.Users.{HasSegment, HaveCommon, ListsSharing, ListsUsers, sharers_in, where_some}
pub use Rattle.arc_tables.specs.Ways.{Cuts, Edge, Extends, Grows, IsNew, Keeps, Lacks, Once, OpenAt, Spoils, Starts}
pub use Rattle.arc_tables.specs.Ways.{Store, Takes, TakesOut, both_parts, chain, edges_of, is_seg, links, one, times}
pub use Rattle.arc_tables.specs.Ways.{walk}
pub use Rattle.arc_tables.specs.declared.arc.Arc.{Arc}
pub use Rattle.arc_tables.specs.declared.arc.NewUses.{NewUses}
pub use Rattle.arc_tables.specs.declared.arc.Ring.{Ring}
pub use Rattle.arc_tables.specs.declared.arc.Stand.{Stand}
pub use Rattle.arc_tables.specs.declared.arc.Use.{Use}
pub use Rattle.arc_tables.specs.declared.batch.Put.{Put}
pub use Rattle.arc_tables.specs.declared.tables.Tables.{Tables}
