use Rattle.kit_words.proofs.Common.{◌∙◌, ap, map}
use Rattle.cover_report.specs.Asked.{view_asked}
use Rattle.cover_report.specs.Faces.{view_told}
use Rattle.cover_report.specs.Layers.{view_looked}
use Rattle.cover_report.proofs.ReportLemmas.{counted_in, reported}
use Rattle.cover_report.proofs.report.push_report.Goals as goal

pub returns-clause-lines : goal.returns-clause-lines
returns-clause-lines g c =
    let wants = view_asked c.args.asked.now in
    let looks = map view_looked c.args.looks.now in
    let faces = ap (map (λ f. view_told f.now)) c.as_slice.ensures.value ∙ c.in_ok-faces.ensures in
    let again = ap (map (λ f. view_told f.now)) c.as_slice-3.ensures.value ∙ c.in_ok-faces.ensures in
    let uneven = c.as_slice-2.ensures.value ∙ c.in_ok-uneven.ensures in
    reported wants looks _ _ _ c.in_ok-counts.counts c.args.text.now.items c.push_found.new.text.items c.push_widths.new.text.items c.push_all_sums.new.text.items c.push_counts.new.text.items
    faces again uneven (counted_in wants looks _ _ c.in_ok-counts.counts faces uneven c.in_ok-counts.ensures.counts)
    c.in_ok-counts.ensures.lines c.in_ok-push_widths.ensures c.in_ok-push_all_sums.ensures c.in_ok-push_counts.ensures

pub returns-clause-counts : goal.returns-clause-counts
returns-clause-counts g c =
    counted_in (view_asked c.args.asked.now) (map view_looked c.args.looks.now) _ _ c.in_ok-counts.counts
    (ap (map (λ f. view_told f.now)) c.as_slice.ensures.value ∙ c.in_ok-faces.ensures) (c.as_slice-2.ensures.value ∙ c.in_ok-uneven.ensures) c.in_ok-counts.ensures.counts
