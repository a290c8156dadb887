use Rattle.kit_words.proofs.Common.{◌∙◌, ◌++◌, ap, codes, decimal, rules, FitsSigned, w128, signed_decimal, to_z-of_z}
use Rattle.cover_report.proofs.Appending.{nine}
use Rattle.cover_report.proofs.lines.UnevenPolygonReportLine.push_line.Goals as goal

pub returns : goal.returns
returns g c =
    let u = c.args.self.now in
    let by_rings : FitsSigned w128 u.by_rings = search rules in
    let even_odd : FitsSigned w128 u.even_odd = search rules in
    nine c.args.text.now.items (codes "uneven ") (decimal u.feature) (codes " ") (decimal u.polygon) (codes " ") (signed_decimal u.by_rings) (codes " ") (signed_decimal u.even_odd) (codes "\n")
    c.extend_from_slice.new.self.items c.push_number.new.text.items c.extend_from_slice-2.new.self.items c.push_number-2.new.text.items
    c.extend_from_slice-3.new.self.items c.push_number-3.new.text.items c.extend_from_slice-4.new.self.items c.push_number-4.new.text.items c.extend_from_slice-5.new.self.items
    c.in_ok-extend_from_slice.ensures.items c.in_ok-push_number.ensures c.in_ok-extend_from_slice-2.ensures.items c.in_ok-push_number-2.ensures
    c.in_ok-extend_from_slice-3.ensures.items
    (c.in_ok-push_number-3.ensures ∙ ap (λ z. c.extend_from_slice-3.new.self.items ++ signed_decimal z) (to_z-of_z w128 u.by_rings by_rings))
    c.in_ok-extend_from_slice-4.ensures.items
    (c.in_ok-push_number-4.ensures ∙ ap (λ z. c.extend_from_slice-4.new.self.items ++ signed_decimal z) (to_z-of_z w128 u.even_odd even_odd))
    c.in_ok-extend_from_slice-5.ensures.items
