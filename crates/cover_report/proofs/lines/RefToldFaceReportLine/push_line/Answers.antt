use Rattle.kit_words.proofs.Common.{◌∙◌, ◌++◌, ap, codes, decimal, rules, FitsSigned, w128, signed_decimal, to_z-of_z}
use Rattle.grid_geometry.specs.Common.{position_text}
use Rattle.cover_report.specs.Report.{features_text, kind_word}
use Rattle.cover_report.proofs.Appending.{eleven}
use Rattle.cover_report.proofs.lines.RefToldFaceReportLine.push_line.Goals as goal

pub returns : goal.returns
returns g c =
    let f = c.args.self.now.now in
    let old = c.args.text.now.items in
    let area : FitsSigned w128 f.area = search rules in
    eleven old (kind_word f.kind) (features_text f.features.items) (codes "/ ") (signed_decimal f.area) (codes " ") (decimal f.width) (codes " / ")
    (position_text f.from) (codes " ") (position_text f.to) (codes "\n")
    c.push_bytes.new.text.items c.push_features.new.text.items c.extend_from_slice.new.self.items c.push_number.new.text.items
    c.extend_from_slice-2.new.self.items c.push_number-2.new.text.items c.extend_from_slice-3.new.self.items c.push_position.new.text.items
    c.extend_from_slice-4.new.self.items c.push_position-2.new.text.items c.extend_from_slice-5.new.self.items
    (c.in_ok-push_bytes.ensures ∙ ap (λ z. old ++ z) c.word_of.ensures)
    (c.in_ok-push_features.ensures ∙ ap (λ z. c.push_bytes.new.text.items ++ features_text z) c.as_slice.ensures.value)
    c.in_ok-extend_from_slice.ensures.items
    (c.in_ok-push_number.ensures ∙ ap (λ z. c.extend_from_slice.new.self.items ++ signed_decimal z) (to_z-of_z w128 f.area area))
    c.in_ok-extend_from_slice-2.ensures.items c.in_ok-push_number-2.ensures c.in_ok-extend_from_slice-3.ensures.items c.in_ok-push_position.ensures
    c.in_ok-extend_from_slice-4.ensures.items c.in_ok-push_position-2.ensures c.in_ok-extend_from_slice-5.ensures.items
