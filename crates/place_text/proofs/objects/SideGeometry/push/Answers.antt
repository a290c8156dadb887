use Rattle.kit_words.proofs.Common.{ap, ◌∙◌, ◌++◌, codes, decimal, appended_six}
use Rattle.place_text.specs.Common.{told_by, finding_text, features_text}
use Rattle.place_text.proofs.objects.SideGeometry.push.Goals as goal

pub returns : goal.returns
returns g c =
    let s = c.args.self.now in
    let told = told_by c.args.owners.now in
    appended_six c.args.text.now.items (codes "{\"type\":\"LineString\",\"properties\":") (finding_text s.kind s.number) (features_text (told.segment s.segment))
    (codes "},\"arcs\":[") (decimal c.args.index) (codes "]}")
    c.extend_from_slice.new.self.items c.push_finding.new.text.items c.push_features.new.text.items c.extend_from_slice-2.new.self.items c.push_number.new.text.items
    c.extend_from_slice-3.new.self.items
    c.in_ok-extend_from_slice.ensures.items c.in_ok-push_finding.ensures
    (c.in_ok-push_features.ensures ∙ ap (λ ns. c.push_finding.new.text.items ++ features_text ns) c.numbers_at.ensures)
    c.in_ok-extend_from_slice-2.ensures.items c.in_ok-push_number.ensures c.in_ok-extend_from_slice-3.ensures.items
