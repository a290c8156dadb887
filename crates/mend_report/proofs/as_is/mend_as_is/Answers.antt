use Rattle.kit_words.proofs.Common.{subst, MatchOption}
use Rattle.mend_report.specs.Common.{IsKeptAsIs, KeepsAsIs}
use Rattle.mend_report.proofs.AsIsLemmas.{tells_kept}
use Rattle.mend_report.proofs.as_is.mend_as_is.Goals as goal

pub returns : goal.returns
returns g c =
    tells_kept c.args.asked c.args.bytes.now c.nothing.result
    (record { paths = c.new.result; parted = c.new-2.result; areas = c.new-3.result; text = c.in-Some.text })
    c.args.report.now.items c.push_mended.new.text.items c.requires
    (subst (λ o. MatchOption o (¬ IsKeptAsIs c.args.bytes.now) (λ text. KeepsAsIs c.args.bytes.now text.items)) c.in-Some.is c.in_ok-text.ensures)
    c.new.ensures.items c.new-2.ensures.items c.new-3.ensures.items c.nothing.ensures.grid c.nothing.ensures.dropped c.nothing.ensures.nothing
    c.in_ok-push_mended.ensures
