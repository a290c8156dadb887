-- The words of this crate that others cite most, passed on from one place. Declares nothing.
pub use Rattle.map_opening.specs.Flat.{IsFlat, rings_of_features, features_seen, in_lists, lists_seen, numbers_seen, ring_count}
pub use Rattle.map_opening.specs.Flat.{shape_of}
pub use Rattle.map_opening.specs.Keyed.{IsKeyed, all_keys}
pub use Rattle.map_opening.specs.Laying.{AreLaid, HasSides, IsLaid, segments_along}
