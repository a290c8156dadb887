use Rattle.kit_words.proofs.Common.{sym, ap, ◌∙◌, ◌++◌, map, codes, append_assoc, appended_three}
use Rattle.map_text.specs.Common.{commas}
use Rattle.cover_places.specs.Places.{place_seen}
use Rattle.cover_places.specs.Text.{borders_text}
use Rattle.cover_places.proofs.topology.push_borders.Goals as goal

pub returns-clause-text : goal.returns-clause-text
returns-clause-text g c =
    let old = c.args.text.now.items in
    let head = codes "{\"type\":\"GeometryCollection\",\"geometries\":[" in
    let borders = commas (borders_text 0 (map place_seen c.args.places.now)) in
    appended_three old head borders (codes "]}") c.extend_from_slice.new.self.items c.push_listed.new.text.items c.extend_from_slice-2.new.self.items
    c.in_ok-extend_from_slice.ensures.items c.in_ok-push_listed.ensures.text c.in_ok-extend_from_slice-2.ensures.items
    ∙ ap (λ z. old ++ (head ++ z)) (sym (append_assoc borders (codes "]") (codes "}")))
