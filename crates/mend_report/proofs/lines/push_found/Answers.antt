use Rattle.kit_words.proofs.Common.{◌∙◌, codes, decimal, length}
use Rattle.mend_report.proofs.Appending.{eight}
use Rattle.mend_report.proofs.ReportLemmas.{numbered}
use Rattle.mend_report.proofs.lines.push_found.Goals as goal

pub returns : goal.returns
returns g c =
    let f = c.args.found.now in
    eight c.args.text.now.items (codes "counts short ") (decimal (length f.short.items)) (codes " repeats ") (decimal (length f.repeats.items))
    (codes " on ") (decimal (length f.touches.items)) (codes " cross ") (decimal (length f.crossings.items))
    c.extend_from_slice.new.self.items c.push_number.new.text.items c.extend_from_slice-2.new.self.items c.push_number-2.new.text.items
    c.extend_from_slice-3.new.self.items c.push_number-3.new.text.items c.extend_from_slice-4.new.self.items c.push_number-4.new.text.items
    c.in_ok-extend_from_slice.ensures.items (numbered _ _ _ _ (c.len.ensures ∙ f.short.ok.0) c.in_ok-push_number.ensures)
    c.in_ok-extend_from_slice-2.ensures.items (numbered _ _ _ _ (c.len-2.ensures ∙ f.repeats.ok.0) c.in_ok-push_number-2.ensures)
    c.in_ok-extend_from_slice-3.ensures.items (numbered _ _ _ _ (c.len-3.ensures ∙ f.touches.ok.0) c.in_ok-push_number-3.ensures)
    c.in_ok-extend_from_slice-4.ensures.items (numbered _ _ _ _ (c.len-4.ensures ∙ f.crossings.ok.0) c.in_ok-push_number-4.ensures)
