use Rattle.kit_words.proofs.Common.{codes, decimal}
use Rattle.mend_report.proofs.Appending.{seven}
use Rattle.mend_report.proofs.lines.PartedReportLine.push_line.Goals as goal

pub returns : goal.returns
returns g c =
    let p = c.args.self.now in
    seven c.args.text.now.items (codes "parts ") (decimal p.feature) (codes " ") (decimal p.polygon) (codes " ") (decimal p.parts) (codes "\n")
    c.extend_from_slice.new.self.items c.push_number.new.text.items c.extend_from_slice-2.new.self.items c.push_number-2.new.text.items
    c.extend_from_slice-3.new.self.items c.push_number-3.new.text.items c.extend_from_slice-4.new.self.items
    c.in_ok-extend_from_slice.ensures.items c.in_ok-push_number.ensures c.in_ok-extend_from_slice-2.ensures.items c.in_ok-push_number-2.ensures
    c.in_ok-extend_from_slice-3.ensures.items c.in_ok-push_number-3.ensures c.in_ok-extend_from_slice-4.ensures.items
