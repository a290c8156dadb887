use Rattle.kit_words.proofs.Common.{◌∙◌, ◌++◌, ap, length, length-map, sym}
use Rattle.cover_report.specs.Faces.{view_told}
use Rattle.cover_report.specs.Report.{face_line}
use Rattle.cover_report.proofs.LineLemmas.{lines_of}
use Rattle.cover_report.proofs.report.push_kind.Goals as goal

pub returns-clause-lines : goal.returns-clause-lines
returns-clause-lines g c =
    c.in_ok-push_first.ensures
    ∙ ap (λ z. c.args.text.now.items ++ z) (lines_of c.args.asked.now.most face_line (λ f. view_told f.now) c.in_ok-told.told.items _ _ c.as_slice.ensures.value c.in_ok-told.ensures)

pub returns-clause-count : goal.returns-clause-count
returns-clause-count g c =
    c.len.ensures ∙ c.in_ok-told.told.ok.0 ∙ sym (length-map c.in_ok-told.told.items (λ f. view_told f.now)) ∙ ap length c.in_ok-told.ensures
