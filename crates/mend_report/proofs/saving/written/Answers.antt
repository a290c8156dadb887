use Rattle.kit_words.proofs.Common.{ap, ◌∙◌, subst, sym}
use Rattle.topo_reader.specs.Common.{document_of, view_raw}
use Rattle.mend_report.specs.Common.{IsUnsaved}
use Rattle.mend_report.proofs.Reopened.{unbuilt_fault, taken_text}
use Rattle.mend_report.proofs.saving.written.Goals as goal

pub returns-in-Err-clause-fault : goal.returns-in-Err-clause-fault
returns-in-Err-clause-fault g c =
    subst (IsUnsaved (document_of (view_raw c.args.raw))) (sym c.unbuilt.ensures) (unbuilt_fault (document_of (view_raw c.args.raw)) c.in-Err.fault c.in-Err.ensures.conflict)

pub returns-in-Ok-write-clause-text : goal.returns-in-Ok-write-clause-text
returns-in-Ok-write-clause-text g c =
    taken_text c.new-out.result.writer.items c.write.new.out.writer.items c.in-Ok.map.doc (document_of (view_raw c.args.raw))
    c.in-Ok-write.ensures.sends.taken (ap (λ w. w.items) c.new-out.ensures.writer ∙ c.new.ensures.items) c.in-Ok.ensures.built
