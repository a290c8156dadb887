use Rattle.kit_words.proofs.Common.{◌≡◌, ◌++◌, take}
use Rattle.std.specs.Prelude.{flat_map}
use Rattle.cover_report.proofs.lines.push_first.Given as goal

-- the lines so far
abbrev pub invariant-loop-told : goal.invariant-loop-told
invariant-loop-told g l = l.text.items ≡ l.fn.text.items ++ flat_map g.L.ReportLine.line (take l.told-index l.first)
