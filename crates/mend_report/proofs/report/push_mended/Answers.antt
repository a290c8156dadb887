use Rattle.kit_words.proofs.Common.{◌∙◌, sym, length, length-map, codes, decimal, appended_five}
use Rattle.segment_paths.specs.Common.{path_of_segment, paths_seen}
use Rattle.mend_report.specs.Common.{findings_text, lines, path_line, parts_line, area_line, found_text, all_counts_line}
use Rattle.mend_report.proofs.Appending.{eight}
use Rattle.mend_report.proofs.ReportLemmas.{told, led, numbered}
use Rattle.mend_report.proofs.report.push_mended.Goals as goal

pub returns : goal.returns
returns g c =
    let f = c.args.report.now.findings in
    let most = c.args.most in
    let paths = c.args.remade.now.paths.items in
    let parted = c.args.remade.now.parted.items in
    let areas = c.args.remade.now.areas.items in
    let found = found_text (length f.short.items) (length f.repeats.items) (length f.touches.items) (length f.crossings.items) in
    let counts = all_counts_line (length f.short.items) (length f.repeats.items) (length f.touches.items) (length f.crossings.items)
    (length (paths_seen paths)) (length parted) (length areas) in
    appended_five c.args.text.now.items (findings_text most c.args.report.now.grid c.args.report.now.dropped f.short.items f.repeats.items f.touches.items f.crossings.items)
    (lines most path_line (paths_seen paths)) (lines most parts_line parted) (lines most area_line areas) counts
    c.push_findings.new.text.items c.push_first.new.text.items c.push_first-2.new.text.items c.push_first-3.new.text.items c.extend_from_slice-4.new.self.items
    c.in_ok-push_findings.ensures
    (led most paths _ _ _ c.as_slice.ensures.value c.in_ok-push_first.ensures)
    (told most parts_line parted _ _ _ c.as_slice-2.ensures.value c.in_ok-push_first-2.ensures)
    (told most area_line areas _ _ _ c.as_slice-3.ensures.value c.in_ok-push_first-3.ensures)
    (eight c.push_first-3.new.text.items found (codes " paths ") (decimal (length (paths_seen paths))) (codes " parts ") (decimal (length parted))
    (codes " areas ") (decimal (length areas)) (codes "\n")
    c.push_found.new.text.items c.extend_from_slice.new.self.items c.push_number.new.text.items c.extend_from_slice-2.new.self.items
    c.push_number-2.new.text.items c.extend_from_slice-3.new.self.items c.push_number-3.new.text.items c.extend_from_slice-4.new.self.items
    c.in_ok-push_found.ensures
    c.in_ok-extend_from_slice.ensures.items
    (numbered _ _ _ _ (c.len.ensures ∙ c.args.remade.now.paths.ok.0 ∙ sym (length-map paths path_of_segment)) c.in_ok-push_number.ensures)
    c.in_ok-extend_from_slice-2.ensures.items (numbered _ _ _ _ (c.len-2.ensures ∙ c.args.remade.now.parted.ok.0) c.in_ok-push_number-2.ensures)
    c.in_ok-extend_from_slice-3.ensures.items (numbered _ _ _ _ (c.len-3.ensures ∙ c.args.remade.now.areas.ok.0) c.in_ok-push_number-3.ensures)
    c.in_ok-extend_from_slice-4.ensures.items)
