-- The words of this crate that others cite most, passed on from one place. Declares nothing.
pub use Rattle.ring_machine.proofs.Accepted.{ThinnedFrom, insert-accepted, inserted, move-accepted, moved}
pub use Rattle.ring_machine.proofs.Accepted.{remove-accepted, removed, thinned-keeps}
pub use Rattle.ring_machine.proofs.Arcs.{flip, flipped, g_ins, ins-keeps, ins_is, is_of, links-append, links-reverse}
pub use Rattle.ring_machine.proofs.Canonical.{Below, Pivot, canonical_at, canonical_parts, canonical_swap, pivot_of}
pub use Rattle.ring_machine.proofs.Canonical.{canonical_length, in_canonical}
pub use Rattle.ring_machine.proofs.CutJoined.{cut_is, feature-cut_other, feature-join_other, formed-cut, formed-join}
pub use Rattle.ring_machine.proofs.CutJoined.{join_is, parts}
pub use Rattle.ring_machine.proofs.CutRings.{CutRing, Standing, canonical_turns, once_there, ring_is_canonical}
pub use Rattle.ring_machine.proofs.CutRings.{rotated_edges, standing}
pub use Rattle.ring_machine.proofs.Cycles.{edges_canonical, in_rotated, length_edges, ring_chain, rotated-sym}
pub use Rattle.ring_machine.proofs.Edges.{by_edges, canonical_by_edges, closed, edges_is, edges_to, edges_to-append}
pub use Rattle.ring_machine.proofs.Edges.{edited_chain, first_or, starts, starts-flat_map, starts_of}
pub use Rattle.ring_machine.proofs.First.{In, filter-in, in-append, in_left, in_right, least_conflict_is}
pub use Rattle.ring_machine.proofs.First.{in-filter, least_conflict_unique}
pub use Rattle.ring_machine.proofs.FormedRings.{formed-before_rings, formed-in_rings}
pub use Rattle.ring_machine.proofs.Found.{DistinctParts, among, distinct-append, distinct_parts, feature-in_features}
pub use Rattle.ring_machine.proofs.Found.{feature-in_rings, feature_found, feature_in, feature_none, feature_stands}
pub use Rattle.ring_machine.proofs.Found.{features-in_features, found, found_in, has_feature-found}
pub use Rattle.ring_machine.proofs.InItems.{in_items-square, of_layers}
pub use Rattle.ring_machine.proofs.InRings.{document-agrees}
pub use Rattle.ring_machine.proofs.Instead.{in-instead, rings_at}
pub use Rattle.ring_machine.proofs.LeftOut.{IsPart, keep, none, part_distinct, part_in, skip}
pub use Rattle.ring_machine.proofs.Local.{Bad, IsLeast, same_least}
pub use Rattle.ring_machine.proofs.Members.{any_alike, any_in, contains_in, in_any, in_contains, in_flat, map_there}
pub use Rattle.ring_machine.proofs.Members.{in_mapped, in_swap, is_some-mapped, mapped_there, same_answer, there}
pub use Rattle.ring_machine.proofs.Members.{any_there}
pub use Rattle.ring_machine.proofs.MergeAccepted.{MergeAccepted, merge-accepted, passes}
pub use Rattle.ring_machine.proofs.Neighbours.{all_in, all_of, begin_place, edge_in, end_place, first_end, has-in}
pub use Rattle.ring_machine.proofs.Neighbours.{in-flat_map, in-has, in-map, none_in, place_around, second_end}
pub use Rattle.ring_machine.proofs.Neighbours.{edge_ends, vertex_in}
pub use Rattle.ring_machine.proofs.Numbered.{AreNumbered, numbered-append, numbered_distinct}
pub use Rattle.ring_machine.proofs.Once.{one, times, times-append}
pub use Rattle.ring_machine.proofs.Order.{edge_eq-refl, edge_eq-true, position_eq-refl}
pub use Rattle.ring_machine.proofs.Order.{position_eq-true}
pub use Rattle.ring_machine.proofs.Order.{position_lt-apart, position_lt-asym, position_lt-irrefl, position_lt-total}
pub use Rattle.ring_machine.proofs.Order.{position_lt-trans, same_position}
pub use Rattle.ring_machine.proofs.Orders.{pair_ordered, segment_ordered}
pub use Rattle.ring_machine.proofs.OtherRings.{in_feature-agrees, join_order}
pub use Rattle.ring_machine.proofs.Passed.{in_split, pass_all, pass_none}
pub use Rattle.ring_machine.proofs.Pieces.{EndsAtJunction, IsPiece, IsTrail, Passes, reversed, reversed_piece}
pub use Rattle.ring_machine.proofs.Pieces.{same_piece}
pub use Rattle.ring_machine.proofs.Removal.{Beside, NextTo, filter_lacks, last, others}
pub use Rattle.ring_machine.proofs.Removal.{onto, position_eq-sym, second}
pub use Rattle.ring_machine.proofs.Renamed.{proper-renamed, renamed_is, rings-renamed, size-renamed}
pub use Rattle.ring_machine.proofs.RingSegments.{ring_once, same_ends, segment_eq-sym, segment_eq-true}
pub use Rattle.ring_machine.proofs.RingsOf.{features-in_rings, rings-in_rings}
pub use Rattle.ring_machine.proofs.Sides.{xor-none, xor-same}
pub use Rattle.ring_machine.proofs.SidesKept.{slice-in}
pub use Rattle.ring_machine.proofs.SortedOnce.{Rising, all_rise, in_all, in_at, in_permuted, in_recursion, none_lost}
pub use Rattle.ring_machine.proofs.SortedOnce.{none_new, position_total, same_rising, sorted_once, ties}
pub use Rattle.ring_machine.proofs.SplitDocuments.{SplitDocument, split-accepted, split_document}
pub use Rattle.ring_machine.proofs.SplitFeatures.{SplitFeature, new_feature}
pub use Rattle.ring_machine.proofs.SplitProper.{split_is_proper, target_there}
pub use Rattle.ring_machine.proofs.SplitRings.{CutsRing, any_turned, cut_of, is_edge_of}
pub use Rattle.ring_machine.proofs.SplitSegments.{any_mapped, canonical_parts_segments, parts_length, path_segments}
pub use Rattle.ring_machine.proofs.Spots.{Rotated, rotated-trans, rotated_distinct, spot_of, with_last}
pub use Rattle.ring_machine.proofs.StaysFormed.{alone, formed-renamed, formed-take_out, is_layer-in_rings, is_layer_is}
pub use Rattle.ring_machine.proofs.StaysFormed.{layer_is}
pub use Rattle.ring_machine.proofs.StaysProper.{del_is_proper, del_is_ring, edges_start, ins_is_proper, ins_is_ring}
pub use Rattle.ring_machine.proofs.StaysProper.{put_is_proper, ring_distinct, ring_long}
pub use Rattle.ring_machine.proofs.StaysRing.{AtMostOne, canonical_is_ring, distinct_swap, put-distinct}
pub use Rattle.ring_machine.proofs.Steps.{first_pair-is, step-delete, step-insert, step-merge, step-move, step-remove}
pub use Rattle.ring_machine.proofs.Steps.{step-rename, step-split, step-thin, step-undo}
pub use Rattle.ring_machine.proofs.TakenOut.{take_out_is, take_out_none, taken}
pub use Rattle.ring_machine.proofs.Walks.{xor-assoc, xor-comm}
pub use Rattle.ring_machine.proofs.Without.{feature-take_out_other, in-take_out, part-rings, proper-take_out}
pub use Rattle.ring_machine.proofs.Without.{size-instead_at, size-take_out_at}
pub use Rattle.ring_machine.proofs.Worked.{E, M, at, bare, both_squares, collection, dented, document, letter, null}
pub use Rattle.ring_machine.proofs.Worked.{polygon, single, square_a, square_b, triangle, under}
