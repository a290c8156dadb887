use Rattle.kit_words.proofs.Common.{subst}
use Rattle.ring_machine.specs.Common.{first_pair}
use Rattle.topo_reader.specs.Common.{document_of, view_raw}
use Rattle.arc_store.specs.Common.{Names}
use Rattle.mend_report.proofs.Reopened.{has_opened, in_conflict, never_read}
use Rattle.mend_report.proofs.as_is.opens.Goals as goal

pub returns-in_default : goal.returns-in_default
returns-in_default g c = never_read c.args.bytes.now (c.in-Err.ensures.unread c.in_default.not-OutOfMemory)

pub returns-in-Ok-build : goal.returns-in-Ok-build
returns-in-Ok-build g c =
    has_opened c.args.bytes.now (document_of (view_raw c.in-Ok.raw)) c.in-Ok-build.map.doc c.in-Ok.ensures.reads c.in-Ok-build.ensures.built c.in-Ok-build.ensures.proper

pub returns-in-Err-Conflict : goal.returns-in-Err-Conflict
returns-in-Err-Conflict g c =
    let d = document_of (view_raw c.in-Ok.raw) in
    in_conflict c.args.bytes.now d (c.in-Err-Conflict.field-0-0, c.in-Err-Conflict.field-0-1) c.in-Ok.ensures.only
    (subst (λ f. Names f (first_pair d)) c.in-Err-Conflict.field-0-is c.in-Err-Conflict.ensures.conflict)
