use Rattle.kit_words.proofs.Common.{ap, ◌∙◌, ◌++◌, rules, FitsSigned, w128, codes, decimal, signed_decimal, to_z-of_z}
use Rattle.mend_report.proofs.Appending.{nine}
use Rattle.mend_report.proofs.lines.AreaChangeReportLine.push_line.Goals as goal

pub returns : goal.returns
returns g c =
    let x = c.args.self.now in
    let was : FitsSigned w128 x.before = search rules in
    let is : FitsSigned w128 x.after = search rules in
    nine c.args.text.now.items (codes "area ") (decimal x.feature) (codes " ") (signed_decimal x.before) (codes " ") (signed_decimal x.after) (codes " ") (decimal x.swept) (codes "\n")
    c.extend_from_slice.new.self.items c.push_number.new.text.items c.extend_from_slice-2.new.self.items c.push_number-2.new.text.items
    c.extend_from_slice-3.new.self.items c.push_number-3.new.text.items c.extend_from_slice-4.new.self.items c.push_number-4.new.text.items c.extend_from_slice-5.new.self.items
    c.in_ok-extend_from_slice.ensures.items c.in_ok-push_number.ensures c.in_ok-extend_from_slice-2.ensures.items
    (c.in_ok-push_number-2.ensures ∙ ap (λ z. c.extend_from_slice-2.new.self.items ++ signed_decimal z) (to_z-of_z w128 x.before was))
    c.in_ok-extend_from_slice-3.ensures.items
    (c.in_ok-push_number-3.ensures ∙ ap (λ z. c.extend_from_slice-3.new.self.items ++ signed_decimal z) (to_z-of_z w128 x.after is))
    c.in_ok-extend_from_slice-4.ensures.items c.in_ok-push_number-4.ensures c.in_ok-extend_from_slice-5.ensures.items
