-- The words of this crate that others cite most, passed on from one place. Declares nothing.
pub use Rattle.ring_machine.specs.Arcs.{Chain, arc_segments, ring_of, squeeze}
pub use Rattle.ring_machine.specs.Command.{Answer, Area, AreaIs, At, AtIs, Command, CommonElse, Conflict, Count}
pub use Rattle.ring_machine.specs.Command.{CountsAre, Delete, DocumentIs, Done, Insert, Junction, Made, Merge, Move}
pub use Rattle.ring_machine.specs.Command.{Neighbours, NeighboursAre, NoCollection, NoFeature, NoSegment, NoVertex}
pub use Rattle.ring_machine.specs.Command.{NotNeighbours, NotOnOuterRing, NotOnePolygon, NothingToUndo, Occupied}
pub use Rattle.ring_machine.specs.Command.{Refusal, Refused, Remove, Rename, RepeatedPoint, RingShort, Rings, RingsAre}
pub use Rattle.ring_machine.specs.Command.{Runs, SameFeature, SameSide, SegmentExists, Show, Split, Sweeps, Thin}
pub use Rattle.ring_machine.specs.Command.{Thinned, TooLarge, Undo, WrongSide}
pub use Rattle.ring_machine.specs.Cut.{Path, becomes, change_first, first_part, first_polygon, first_that, goes_first}
pub use Rattle.ring_machine.specs.Cut.{instead, is_cut_by, is_wrong_side, least_off, parted, path_of, same_sign}
pub use Rattle.ring_machine.specs.Cut.{second_part, second_polygon, stays}
unfoldable pub use Rattle.ring_machine.specs.Cut.{cut}
pub use Rattle.ring_machine.specs.Document.{Close, Document, DocumentOf, Feature, FeatureOf, Form, Head, Item, ItemOf}
pub use Rattle.ring_machine.specs.Document.{Kept, Layer, LayerOf, Leaf, Member, MultiPolygon, Null, Open, Polygon, Text}
pub use Rattle.ring_machine.specs.Join.{common_else, empty_collection, is_common, is_leaf, joined, joined_feature}
pub use Rattle.ring_machine.specs.Join.{joined_polygons, neighbour_edges, off_run, passed_alike, positive, runs}
pub use Rattle.ring_machine.specs.Join.{same_segments, same_side}
unfoldable pub use Rattle.ring_machine.specs.Join.{join, take_out}
pub use Rattle.ring_machine.specs.Machine.{State, answers, changed, edit, query, renamed, split_state, thin_step}
pub use Rattle.ring_machine.specs.Machine.{undone}
unfoldable pub use Rattle.ring_machine.specs.Machine.{step}
pub use Rattle.ring_machine.specs.Parts.{all_segments, feature, feature_of, features, has_feature, in_feature}
pub use Rattle.ring_machine.specs.Parts.{in_features, in_item, in_items, in_layer, in_rings, is_segment, is_vertex}
pub use Rattle.ring_machine.specs.Parts.{positions, rings, rings_of, size}
pub use Rattle.ring_machine.specs.Planar.{Proper, conflicts, least_conflict, pair_lt}
unfoldable pub use Rattle.ring_machine.specs.Planar.{first_pair}
pub use Rattle.ring_machine.specs.Query.{Counts, absolute_area, add_number, add_position, add_segment, area_of}
pub use Rattle.ring_machine.specs.Query.{border_at, counts_of, distinct_segments, have_common, inside_at, is_in_feature}
pub use Rattle.ring_machine.specs.Query.{is_in_polygon, is_on_border, neighbours_of, numbers, polygon_area, segments_of}
pub use Rattle.ring_machine.specs.Query.{vertices}
pub use Rattle.ring_machine.specs.Refusals.{are_long, conflict_of, feature_at, feature_refusals, first_of, is_bridged}
pub use Rattle.ring_machine.specs.Refusals.{is_layer, is_path_segment, is_small, no_feature, or_else, outer_of, planar}
pub use Rattle.ring_machine.specs.Refusals.{positions_of, ring_refusals, ◌unless◌}
unfoldable pub use Rattle.ring_machine.specs.Refusals.{insert_refusals, merge_refusals, move_refusals, remove_refusals}
unfoldable pub use Rattle.ring_machine.specs.Refusals.{split_refusals}
pub use Rattle.ring_machine.specs.Ring.{before, begin_at, begins_least, between_each, canonical, edge_eq, from, has}
pub use Rattle.ring_machine.specs.Ring.{is_distinct, is_ring, least, segment_of, segments, spots, stretch}
pub use Rattle.ring_machine.specs.Sides.{KeepsSides, ring_at, ring_of_feature}
pub use Rattle.ring_machine.specs.Sweep.{crosses_on_way, edge_sweeps, holds_other}
unfoldable pub use Rattle.ring_machine.specs.Sweep.{insert_sweeps, move_sweeps, remove_sweeps}
pub use Rattle.ring_machine.specs.Thin.{IsThinnedPart, Thinning, is_flat, thin_at, thinned_over, without}
unfoldable pub use Rattle.ring_machine.specs.Thin.{thinned}
pub use Rattle.ring_machine.specs.Vertices.{all_equal, around, del, del_ring, ins, ins_ring, is_junction, put, put_ring}
pub use Rattle.ring_machine.specs.WellFormed.{Same, WellFormed, are_distinct, fits_form, is_geometry, is_inner}
