use Rattle.kit_words.proofs.Common.{◌≡◌, ◌-◌, ◌++◌, map}
use Rattle.cover_report.specs.Faces.{view_told}
use Rattle.cover_report.specs.Report.{wide_from, wide_lines}
use Rattle.cover_report.proofs.lines.push_widths.Given as goal

-- with the lines that are still to come they are all
abbrev pub invariant-loop-shift : goal.invariant-loop-shift
invariant-loop-shift g l =
    l.text.items ++ wide_from (126 - l.shift) l.shift (map (λ f. view_told f.now) l.fn.faces)
    ≡ l.fn.text.items ++ wide_lines (map (λ f. view_told f.now) l.fn.faces)
