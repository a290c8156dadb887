use Rattle.kit_words.proofs.Common.{ap, ◌∙◌, ◌++◌, codes, decimal, appended_six}
use Rattle.segment_paths.specs.Common.{path_of_segment}
use Rattle.place_text.specs.Common.{told_by, features_text}
use Rattle.place_text.proofs.objects.SegmentPathGeometry.push.Goals as goal

pub returns : goal.returns
returns g c =
    let told = told_by c.args.owners.now in
    appended_six c.args.text.now.items (codes "{\"type\":\"LineString\",\"properties\":{\"number\":") (decimal c.args.number)
    (features_text (told.segment (path_of_segment c.args.self.now).0)) (codes "},\"arcs\":[") (decimal c.args.index) (codes "]}")
    c.extend_from_slice.new.self.items c.push_number.new.text.items c.push_features.new.text.items c.extend_from_slice-2.new.self.items c.push_number-2.new.text.items
    c.extend_from_slice-3.new.self.items
    c.in_ok-extend_from_slice.ensures.items c.in_ok-push_number.ensures
    (c.in_ok-push_features.ensures ∙ ap (λ ns. c.push_number.new.text.items ++ features_text ns) c.numbers_at.ensures)
    c.in_ok-extend_from_slice-2.ensures.items c.in_ok-push_number-2.ensures c.in_ok-extend_from_slice-3.ensures.items
