use Rattle.kit_words.proofs.Common.{ap, ◌∙◌, ◌++◌, codes, length, appended_five}
use Rattle.cover_places.specs.Places.{place_seen}
use Rattle.cover_places.specs.Text.{lines_text, properties_text}
use Rattle.cover_places.proofs.objects.push_border.Goals as goal

pub returns : goal.returns
returns g c =
    let p = place_seen c.args.place.now in
    appended_five c.args.text.now.items (codes "{\"type\":\"MultiLineString\",\"properties\":") (properties_text p) (codes ",\"arcs\":")
    (lines_text c.args.first (length p.face.sides)) (codes "}")
    c.extend_from_slice.new.self.items c.push_properties.new.text.items c.extend_from_slice-2.new.self.items c.push_lines.new.text.items
    c.extend_from_slice-3.new.self.items
    c.in_ok-extend_from_slice.ensures.items c.in_ok-push_properties.ensures c.in_ok-extend_from_slice-2.ensures.items
    (c.in_ok-push_lines.ensures ∙ ap (λ n. c.extend_from_slice-2.new.self.items ++ lines_text c.args.first n) (c.len.ensures ∙ c.args.place.now.face.now.sides.ok.0))
    c.in_ok-extend_from_slice-3.ensures.items
