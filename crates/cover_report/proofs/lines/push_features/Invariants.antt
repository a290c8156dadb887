use Rattle.kit_words.proofs.Common.{◌≡◌, ◌++◌, take}
use Rattle.cover_report.specs.Report.{features_text}
use Rattle.cover_report.proofs.lines.push_features.Given as goal

abbrev pub invariant-loop-feature : goal.invariant-loop-feature
invariant-loop-feature g l = l.text.items ≡ l.fn.text.items ++ features_text (take l.feature-index l.features)
