use Rattle.kit_words.proofs.Common.{ap, ◌∙◌, ◌++◌, map, codes, is_some, option_map, length}
use Rattle.map_text.specs.Common.{arcs_text}
use Rattle.segment_paths.specs.Common.{paths_seen}
use Rattle.place_text.specs.Common.{side_ends, told_by, point_of_place, side_text, sides_text, collection_text, path_layer}
use Rattle.place_text.specs.Common.{transform_member, ways}
use Rattle.place_text.proofs.Assembled.{ten, some_there}
use Rattle.place_text.proofs.Listed.{each_is_map, each_from_nought}
use Rattle.place_text.proofs.topology.push_topology.Goals as goal

pub returns : goal.returns
returns g c =
    let transform = option_map (λ t. t.now) c.args.transform in
    let told = told_by c.args.owners.now in
    let paths = option_map (λ ps. paths_seen ps.now) c.args.paths in
    let sides = c.args.sides.now in
    let all = map side_ends sides ++ ways paths in
    ten c.args.text.now.items (codes "{\"type\":\"Topology\"") (transform_member transform)
    (codes ",\"objects\":{\"places\":") (collection_text (map (point_of_place told) c.args.places.now))
    (codes ",\"segments\":") (collection_text (sides_text told sides)) (path_layer told (length sides) paths)
    (codes "},\"arcs\":") (arcs_text (is_some transform) all) (codes "}")
    c.extend_from_slice.new.self.items c.push_transform.new.text.items c.extend_from_slice-2.new.self.items c.push_collection.new.text.items
    c.extend_from_slice-3.new.self.items c.push_collection-2.new.text.items c.push_path_layer.new.text.items c.extend_from_slice-4.new.self.items
    c.push_arcs.new.text.items c.extend_from_slice-5.new.self.items
    c.in_ok-extend_from_slice.ensures.items c.in_ok-push_transform.ensures c.in_ok-extend_from_slice-2.ensures.items
    (c.in_ok-push_collection.ensures ∙ ap (λ z. c.extend_from_slice-2.new.self.items ++ collection_text z) (each_is_map (point_of_place told) 0 c.args.places.now))
    c.in_ok-extend_from_slice-3.ensures.items
    (c.in_ok-push_collection-2.ensures ∙ ap (λ z. c.extend_from_slice-3.new.self.items ++ collection_text z) (each_from_nought (side_text told) 0 sides))
    c.in_ok-push_path_layer.ensures
    c.in_ok-extend_from_slice-4.ensures.items
    (c.in_ok-push_arcs.ensures ∙ ap (λ b. c.extend_from_slice-4.new.self.items ++ arcs_text b all) (c.is_some.ensures ∙ some_there c.args.transform))
    c.in_ok-extend_from_slice-5.ensures.items
