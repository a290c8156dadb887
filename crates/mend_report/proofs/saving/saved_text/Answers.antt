use Rattle.kit_words.proofs.Common.{◌∙◌, subst}
use Rattle.topo_reader.specs.Common.{document_of, view_raw}
use Rattle.mend_report.specs.Common.{IsRead}
use Rattle.mend_report.proofs.Reopened.{opens_again, handed_on}
use Rattle.mend_report.proofs.saving.saved_text.Goals as goal

pub returns-clause-opens : goal.returns-clause-opens
returns-clause-opens g c =
    opens_again c.in_ok-text.text.items (document_of (view_raw c.args.raw)) c.in_ok-text.ensures.saved c.in_ok-text.ensures.proper
    (subst IsRead c.as_slice.ensures.value c.in_ok-read_again.ensures.read)

pub returns-in_err-read_again-clause-fault : goal.returns-in_err-read_again-clause-fault
returns-in_err-read_again-clause-fault g c =
    handed_on c.as_slice.result.now (document_of (view_raw c.args.raw)) c.in_err-read_again.field-0.0 _ c.from_residual-in_err-read_again.ensures.1
    (c.as_slice.ensures.value ∙ c.in_ok-text.ensures.text) c.in_err-read_again.ensures.fault
