use Rattle.kit_words.proofs.Common.{◌∙◌, ◌++◌, ap, append-nil, flat_mapped_more, map, sym, take_all}
use Rattle.std.specs.Prelude.{flat_map}
use Rattle.cover_report.specs.Layers.{view_looked}
use Rattle.cover_report.specs.Report.{sum_line}
use Rattle.cover_report.proofs.ToldLemmas.{longer}
use Rattle.cover_report.proofs.lines.push_all_sums.Goals as goal

pub loop-looked-init : goal.loop-looked-init
loop-looked-init g c = sym (append-nil c.args.text.now.items)

pub loop-looked-preserved : goal.loop-looked-preserved
loop-looked-preserved g c =
    longer c.args.text.now.items c.push_sums.new.text.items _ c.loop-looked.text.items (sum_line (view_looked c.looked-item.result)) _
    c.in_ok-push_sums.ensures c.loop-looked.invariant
    (flat_mapped_more sum_line view_looked c.args.looks.now c.loop-looked.looked-index c.looked-item.result c.loop-looked-test.true c.looked-item.is)

pub returns : goal.returns
returns g c =
    c.loop-looked.invariant ∙ ap (λ z. c.args.text.now.items ++ flat_map sum_line (map view_looked z)) (take_all c.loop-looked.looked-index c.args.looks.now c.loop-looked-test.false)
