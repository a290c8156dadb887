use Rattle.kit_words.proofs.Common.{◌≡◌, ◌++◌, map, take}
use Rattle.std.specs.Prelude.{flat_map}
use Rattle.cover_report.specs.Layers.{view_looked}
use Rattle.cover_report.specs.Report.{sum_line}
use Rattle.cover_report.proofs.lines.push_all_sums.Given as goal

abbrev pub invariant-loop-looked : goal.invariant-loop-looked
invariant-loop-looked g l = l.text.items ≡ l.fn.text.items ++ flat_map sum_line (map view_looked (take l.looked-index l.looks))
