-- The words of this crate that others cite most, passed on from one place. Declares nothing.
pub use Rattle.indexmap.specs.IndexMap.{values}
pub use Rattle.topo_outline.specs.Faults.{Fault, arcs_do_not_meet, bad_arc_index, bad_member, bad_position, demand}
pub use Rattle.topo_outline.specs.Faults.{duplicate, each, each_at, not_topology, not_whole, out_of_range, ring_repeats}
pub use Rattle.topo_outline.specs.Faults.{ring_short, too_deep, too_large, unsupported, ◌>>=◌}
pub use Rattle.topo_outline.specs.Gives.{Fails, Gives}
pub use Rattle.topo_outline.specs.IsOutline.{AreGeometries, AreLayers, AreLists, AreListsOfLists, AreTwoNumbers}
pub use Rattle.topo_outline.specs.IsOutline.{Entries, HasEntries, HasNoOutline, HasOutline, HasType, IsGeometry}
pub use Rattle.topo_outline.specs.IsOutline.{IsOutline, IsTransform, NestsAtMost, collection, entry, geometry, layer}
pub use Rattle.topo_outline.specs.IsOutline.{multi_point, multi_polygon, no_entry, no_geometry, no_layer, no_transform}
pub use Rattle.topo_outline.specs.IsOutline.{null_geometry, null_transform, point, polygon, transform, value_at}
pub use Rattle.topo_outline.specs.Kept.{AreKeptMembers, IfThere, IsJson, IsKeptGeometry, IsKeptHead, IsKeptMember}
pub use Rattle.topo_outline.specs.Kept.{IsKeptTransform, IsName, KeepsItem, KeepsTexts, head_of, owner_of}
pub use Rattle.topo_outline.specs.Layers.{LayerText, OutlineText, Piece, at_most_one, ends, few, leaf, leaf_of, starts}
pub use Rattle.topo_outline.specs.Layers.{text}
unfoldable pub use Rattle.topo_outline.specs.Layers.{leaves, leaves_in}
pub use Rattle.topo_outline.specs.Members.{EntryNode, code, entry_of, head, is_known, kept, kept_text, member, text_of}
pub use Rattle.topo_outline.specs.Numbered.{items_from, layers_from, numbered, polygons_at}
pub use Rattle.topo_outline.specs.Outline.{outline, outline_text, outlined}
pub use Rattle.topo_outline.specs.OutlineView.{IsPlaced, view_outline}
pub use Rattle.topo_outline.specs.Shape.{are_lists, are_lists_of_lists, are_rings, are_two_numbers, each_joined}
pub use Rattle.topo_outline.specs.Shape.{is_collection, is_kind_object, is_list, is_list_kind, is_number, is_object}
pub use Rattle.topo_outline.specs.Shape.{is_topology, is_topology_word, is_transform, is_type_text, layers, member_that}
pub use Rattle.topo_outline.specs.Shape.{members_of, name_text, says_topology, shaped, single, text_from, there}
pub use Rattle.topo_outline.specs.Shape.{transform_from, transform_value, two_numbers, type_of, type_text, unquoted}
pub use Rattle.topo_outline.specs.Shape.{with_rings, wrong}
unfoldable pub use Rattle.topo_outline.specs.Shape.{named}
pub use Rattle.topo_outline.specs.Views.{form_of, view_entry, view_head, view_item, view_kept, view_layer, view_place}
unfoldable pub use Rattle.topo_outline.specs.Words.{geometry_of, word_of}
pub use Rattle.topo_outline.specs.declared.fault.OpenFault.{OpenFault}
pub use Rattle.topo_outline.specs.declared.members.Owner.{Owner}
pub use Rattle.topo_outline.specs.declared.words.Geometry.{Geometry}
pub use Rattle.topo_outline.specs.declared.words.Word.{Word}
