use Rattle.kit_words.proofs.Common.{◌∙◌, ◌++◌, ap, codes, rules, FitsSigned, w128, signed_decimal, to_z-of_z}
use Rattle.cover_report.proofs.Appending.{thirteen}
use Rattle.cover_report.proofs.lines.push_sums.Goals as goal

pub returns : goal.returns
returns g c =
    let s = c.args.looked.now.sums in
    let polygons : FitsSigned w128 s.polygons = search rules in
    let over : FitsSigned w128 s.over = search rules in
    let covered : FitsSigned w128 s.covered = search rules in
    let gaps : FitsSigned w128 s.gaps = search rules in
    let within : FitsSigned w128 s.within = search rules in
    thirteen c.args.text.now.items (codes "sum ") (signed_decimal s.polygons) (codes " over ") (signed_decimal s.over) (codes " covered ") (signed_decimal s.covered)
    (codes " gaps ") (signed_decimal s.gaps) (codes " within ") (signed_decimal s.within) (codes " ") c.args.looked.now.name.now (codes "\n")
    c.extend_from_slice.new.self.items c.push_number.new.text.items c.extend_from_slice-2.new.self.items c.push_number-2.new.text.items
    c.extend_from_slice-3.new.self.items c.push_number-3.new.text.items c.extend_from_slice-4.new.self.items c.push_number-4.new.text.items
    c.extend_from_slice-5.new.self.items c.push_number-5.new.text.items c.extend_from_slice-6.new.self.items c.push_bytes.new.text.items c.extend_from_slice-7.new.self.items
    c.in_ok-extend_from_slice.ensures.items
    (c.in_ok-push_number.ensures ∙ ap (λ z. c.extend_from_slice.new.self.items ++ signed_decimal z) (to_z-of_z w128 s.polygons polygons))
    c.in_ok-extend_from_slice-2.ensures.items
    (c.in_ok-push_number-2.ensures ∙ ap (λ z. c.extend_from_slice-2.new.self.items ++ signed_decimal z) (to_z-of_z w128 s.over over))
    c.in_ok-extend_from_slice-3.ensures.items
    (c.in_ok-push_number-3.ensures ∙ ap (λ z. c.extend_from_slice-3.new.self.items ++ signed_decimal z) (to_z-of_z w128 s.covered covered))
    c.in_ok-extend_from_slice-4.ensures.items
    (c.in_ok-push_number-4.ensures ∙ ap (λ z. c.extend_from_slice-4.new.self.items ++ signed_decimal z) (to_z-of_z w128 s.gaps gaps))
    c.in_ok-extend_from_slice-5.ensures.items
    (c.in_ok-push_number-5.ensures ∙ ap (λ z. c.extend_from_slice-5.new.self.items ++ signed_decimal z) (to_z-of_z w128 s.within within))
    c.in_ok-extend_from_slice-6.ensures.items
    c.in_ok-push_bytes.ensures
    c.in_ok-extend_from_slice-7.ensures.items
