-- The words of this crate that others cite most, passed on from one place. Declares nothing.
pub use Rattle.walk_faults.specs.Findings.{Found, HasMore, IsCrossing, IsTouch, ListsAll, OnlyIfMany, IsFindFault}
pub use Rattle.walk_faults.specs.Findings.{all_positions, all_repeats, segments_of_walks, crossing_at, crossing_cmp}
pub use Rattle.walk_faults.specs.Findings.{is_repeated, is_short_walk, repeat_at, repeated, segment_at, short_walks}
pub use Rattle.walk_faults.specs.Findings.{touch_at, touch_cmp, walk_segments}
pub use Rattle.walk_faults.specs.Meeting.{AreHeld, crossing, crossings_among, touches_among, touching}
pub use Rattle.walk_faults.specs.Opens.{IsNothing, Opens, all_walks, is_closed_ring}
pub use Rattle.walk_faults.specs.Seen.{features_seen, walk_seen}
pub use Rattle.walk_faults.specs.Walks.{Placed, flat_map_at, placed, walks_in_feature, walks_in_polygon, walks_of}
pub use Rattle.walk_faults.specs.declared.findings.Crossing.{Crossing}
pub use Rattle.walk_faults.specs.declared.findings.FindFault.{FindFault}
pub use Rattle.walk_faults.specs.declared.findings.Touch.{Touch}
