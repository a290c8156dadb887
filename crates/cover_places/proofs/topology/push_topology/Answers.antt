use Rattle.kit_words.proofs.Common.{ap₂, ◌∙◌, ◌++◌, map, codes, is_some, option_map}
use Rattle.map_text.specs.Common.{arcs_text}
use Rattle.place_text.specs.Common.{collection_text, transform_member}
use Rattle.place_text.proofs.Assembled.{some_there}
use Rattle.cover_report.proofs.Appending.{nine}
use Rattle.cover_places.specs.Places.{place_seen}
use Rattle.cover_places.specs.Text.{borders_text, point_text, side_positions, sides_of}
use Rattle.cover_places.proofs.topology.push_topology.Goals as goal

pub returns : goal.returns
returns g c =
    let transform = option_map (λ t. t.now) c.args.transform in
    let places = map place_seen c.args.places.now in
    nine c.args.text.now.items (codes "{\"type\":\"Topology\"") (transform_member transform) (codes ",\"objects\":{\"places\":")
    (collection_text (map point_text places)) (codes ",\"borders\":") (collection_text (borders_text 0 places)) (codes "},\"arcs\":")
    (arcs_text (is_some transform) (map side_positions (sides_of places))) (codes "}")
    c.extend_from_slice.new.self.items c.push_transform.new.text.items c.extend_from_slice-2.new.self.items c.push_points.new.text.items
    c.extend_from_slice-3.new.self.items c.push_borders.new.text.items c.extend_from_slice-4.new.self.items c.push_arcs.new.text.items
    c.extend_from_slice-5.new.self.items
    c.in_ok-extend_from_slice.ensures.items c.in_ok-push_transform.ensures c.in_ok-extend_from_slice-2.ensures.items c.in_ok-push_points.ensures
    c.in_ok-extend_from_slice-3.ensures.items c.in_ok-sides.ensures.text c.in_ok-extend_from_slice-4.ensures.items
    (c.in_ok-push_arcs.ensures ∙ ap₂ (λ b sides. c.extend_from_slice-4.new.self.items ++ arcs_text b (map side_positions sides))
    (c.is_some.ensures ∙ some_there c.args.transform) (c.as_slice.ensures.value ∙ c.in_ok-sides.ensures.sides))
    c.in_ok-extend_from_slice-5.ensures.items
