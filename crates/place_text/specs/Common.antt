-- The words of this crate that others cite most, passed on from one place. Declares nothing.
pub use Rattle.place_text.specs.Owners.{Telling, vertices_of_feature, feature_segments, has_edge, has_vertex}
pub use Rattle.place_text.specs.Owners.{number_if, numbers_where, pair_features, segment_features, telling}
pub use Rattle.place_text.specs.Owners.{vertex_features}
pub use Rattle.place_text.specs.Places.{AreCrossings, ArePlaces, crossing_place, list_at, place_at, places_of}
pub use Rattle.place_text.specs.Places.{repeat_place, short_place, touch_place, walk_at}
pub use Rattle.place_text.specs.Sides.{crossing_sides, segment_ends, pair_behind, side_ends, sides_of, touch_side, path_positions}
pub use Rattle.place_text.specs.Tables.{Answers, AnswersBoth, AreEmpty, Tells, TellsAll, asked_with, is_among, is_last}
pub use Rattle.place_text.specs.Tables.{numbers_at, numbers_in, numbers_held, once, once_if, path_segment, side_segment}
pub use Rattle.place_text.specs.Tables.{told_by, told_paths, touch_pos}
pub use Rattle.place_text.specs.Text.{IsPlaceText, behind_if, collection_text, features_text, finding_text, path_layer}
pub use Rattle.place_text.specs.Text.{path_text, paths_text, point_of_place, ring_members, side_text, sides_text}
pub use Rattle.place_text.specs.Text.{topology_text, transform_member, ways, whose_text}
pub use Rattle.place_text.specs.declared.places.Kind.TheVariants.{Cross, On, Short}
pub use Rattle.place_text.specs.declared.places.Place.{Place}
pub use Rattle.place_text.specs.declared.sides.Side.{Side}
pub use Rattle.place_text.specs.declared.tables.Tables.{Tables}
