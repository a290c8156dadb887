use Rattle.topo_reader.specs.Common.{document_of, view_raw}
use Rattle.mend_report.proofs.AsIsLemmas.{unread_unkept, unsaved_unkept}
use Rattle.mend_report.proofs.Reopened.{never_read}
use Rattle.mend_report.proofs.as_is.text_as_is.Goals as goal

pub returns-in_default : goal.returns-in_default
returns-in_default g c = unread_unkept c.args.bytes.now (never_read c.args.bytes.now (c.in-Err.ensures.unread c.in_default.not-OutOfMemory))

pub returns-in_default-fault : goal.returns-in_default-fault
returns-in_default-fault g c =
    unsaved_unkept c.args.bytes.now (document_of (view_raw c.in-Ok.raw)) c.in-Err-saved_text.fault c.in-Ok.ensures.reads.0
    c.in-Err-saved_text.ensures.fault c.in_default-fault.not-OutOfMemory
