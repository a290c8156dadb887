use Rattle.kit_words.proofs.Common.{◌++◌, codes, appended_six}
use Rattle.std.specs.Prelude.{flat_map}
use Rattle.grid_geometry.specs.Common.{position_text}
use Rattle.mend_report.proofs.ReportLemmas.{begins, ends, goes_along}
use Rattle.mend_report.proofs.lines.SegmentPathReportLine.push_line.Goals as goal

pub returns : goal.returns
returns g c =
    let p = c.args.self.now in
    appended_six c.args.text.now.items (codes "path ") (position_text p.segment.lo) (flat_map (λ q. codes " " ++ position_text q) p.inner.items) (codes " ")
    (position_text p.segment.hi) (codes "\n")
    c.extend_from_slice.new.self.items c.push_position.new.text.items c.push_positions.new.text.items c.extend_from_slice-2.new.self.items
    c.push_position-2.new.text.items c.extend_from_slice-3.new.self.items
    c.in_ok-extend_from_slice.ensures.items (begins _ _ _ _ c.self.view_is c.in_ok-push_position.ensures)
    (goes_along (λ q. codes " " ++ position_text q) _ _ _ _ _ c.self.view_is c.as_slice.ensures.value c.in_ok-push_positions.ensures)
    c.in_ok-extend_from_slice-2.ensures.items (ends _ _ _ _ c.self.view_is c.in_ok-push_position-2.ensures) c.in_ok-extend_from_slice-3.ensures.items
