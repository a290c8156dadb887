use Rattle.kit_words.proofs.Common.{length, codes, appended_three}
use Rattle.mend_report.specs.Common.{findings_text, found_text}
use Rattle.mend_report.proofs.report.push_report.Goals as goal

pub returns : goal.returns
returns g c =
    let f = c.args.report.now.findings in
    appended_three c.args.text.now.items (findings_text c.args.most c.args.report.now.grid c.args.report.now.dropped f.short.items f.repeats.items f.touches.items f.crossings.items)
    (found_text (length f.short.items) (length f.repeats.items) (length f.touches.items) (length f.crossings.items)) (codes "\n")
    c.push_findings.new.text.items c.push_found.new.text.items c.extend_from_slice.new.self.items
    c.in_ok-push_findings.ensures c.in_ok-push_found.ensures c.in_ok-extend_from_slice.ensures.items
