use Rattle.kit_words.proofs.Common.{subst, MatchBool}
use Rattle.mend_report.specs.Common.{HasOpened}
use Rattle.mend_report.proofs.AsIsLemmas.{tells_nothing}
use Rattle.mend_report.proofs.as_is.report_as_is.Goals as goal

pub returns : goal.returns
returns g c =
    tells_nothing c.args.asked c.args.bytes.now c.nothing-told.result c.args.report.now.items c.push_report.new.text.items c.requires
    (subst (λ b. MatchBool b (HasOpened c.args.bytes.now) (¬ HasOpened c.args.bytes.now)) c.if-not-is_open.false c.in_ok-is_open.ensures)
    c.nothing-told.ensures.grid c.nothing-told.ensures.dropped c.nothing-told.ensures.nothing c.in_ok-push_report.ensures
