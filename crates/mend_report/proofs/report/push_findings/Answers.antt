use Rattle.kit_words.proofs.Common.{◌&&◌, ◌==◌, appended_six}
use Rattle.mend_report.specs.Common.{reads_unchanged, is_clear, opens_line, grid_text, short_line, repeat_line, touch_line}
use Rattle.mend_report.specs.Common.{crossing_line, lines}
use Rattle.mend_report.proofs.ReportLemmas.{opened, told}
use Rattle.mend_report.proofs.report.push_findings.Goals as goal

pub returns : goal.returns
returns g c =
    let most = c.args.most in
    let grid = c.args.report.now.grid in
    let dropped = c.args.report.now.dropped in
    let short = c.args.report.now.findings.short.items in
    let repeats = c.args.report.now.findings.repeats.items in
    let touches = c.args.report.now.findings.touches.items in
    let crossings = c.args.report.now.findings.crossings.items in
    appended_six c.args.text.now.items (opens_line (reads_unchanged grid && dropped == 0 && is_clear short repeats touches crossings)) (grid_text grid dropped)
    (lines most short_line short) (lines most repeat_line repeats)
    (lines most touch_line touches) (lines most crossing_line crossings)
    c.push_opens.new.text.items c.push_grid.new.text.items c.push_first.new.text.items c.push_first-2.new.text.items c.push_first-3.new.text.items
    c.push_first-4.new.text.items
    (opened _ _ _ _ c.is_open.ensures c.in_ok-push_opens.ensures)
    c.in_ok-push_grid.ensures
    (told most short_line short _ _ _ c.as_slice.ensures.value c.in_ok-push_first.ensures)
    (told most repeat_line repeats _ _ _ c.as_slice-2.ensures.value c.in_ok-push_first-2.ensures)
    (told most touch_line touches _ _ _ c.as_slice-3.ensures.value c.in_ok-push_first-3.ensures)
    (told most crossing_line crossings _ _ _ c.as_slice-4.ensures.value c.in_ok-push_first-4.ensures)
