use Rattle.kit_words.proofs.Common.{appended_five, map, refl}
use Rattle.layer_faces.specs.declared.kind.Kind.TheVariants.{Overlap, Twice, Gap, Lake}
use Rattle.cover_report.specs.Asked.{view_asked}
use Rattle.cover_report.specs.Faces.{view_told}
use Rattle.cover_report.specs.Report.{lines, told_lines, uneven_line}
use Rattle.cover_report.proofs.ReportLemmas.{counted}
use Rattle.cover_report.proofs.report.push_found.Goals as goal

pub returns-clause-lines : goal.returns-clause-lines
returns-clause-lines g c =
    let wants = view_asked c.args.asked.now in
    let faces = map (λ f. view_told f.now) c.args.faces.now in
    appended_five c.args.text.now.items (told_lines wants Overlap faces) (told_lines wants Twice faces) (told_lines wants Gap faces) (told_lines wants Lake faces)
    (lines wants.most uneven_line c.args.uneven.now)
    c.push_kind.new.text.items c.push_kind-2.new.text.items c.push_kind-3.new.text.items c.push_kind-4.new.text.items c.push_first.new.text.items
    c.in_ok-overlaps.ensures.lines c.in_ok-twices.ensures.lines c.in_ok-gaps.ensures.lines c.in_ok-lakes.ensures.lines c.in_ok-push_first.ensures

pub returns-clause-counts : goal.returns-clause-counts
returns-clause-counts g c =
    counted (view_asked c.args.asked.now) (map (λ f. view_told f.now) c.args.faces.now) c.args.uneven.now _ _ _ _ _
    c.in_ok-overlaps.ensures.count c.in_ok-twices.ensures.count c.in_ok-gaps.ensures.count c.in_ok-lakes.ensures.count refl
