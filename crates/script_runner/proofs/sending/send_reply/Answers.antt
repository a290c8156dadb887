use Rattle.kit_words.proofs.Common.{ap, subst}
use Rattle.device_io.specs.Common.{Took, TookFront}
use Rattle.device_io.proofs.Common.{sends_front, took_none}
use Rattle.ring_machine.specs.Common.{Document}
use Rattle.map_text.specs.Common.{text_of, Saved}
use Rattle.topo_writer.specs.Common.{of_device}
use Rattle.topo_writer.specs.declared.fault.WriteFault.TheVariants.{OutOfMemory}
use Rattle.script_runner.proofs.SendLemmas.{shown, shown_text}
use Rattle.script_runner.proofs.sending.send_reply.Goals as goal

pub returns-in_err-send_document-in-Some-Document-clause-sends : goal.returns-in_err-send_document-in-Some-Document-clause-sends
returns-in_err-send_document-in-Some-Document-clause-sends g c =
    let text = shown_text c.args.editor.now (c.map.result.now).doc (ap (λ m. m.doc) c.map.ensures) in
    rw (c.in-Some-Document.is, c.in-Some-Document.field-0-is)
    (sends_front of_device _ _ c.from_residual.ensures.1
    (subst (TookFront g.W.Sink _ _ _) text c.in_err-send_document-in-Some-Document.ensures.sends))

pub returns-in-Some-Document-clause-sends : goal.returns-in-Some-Document-clause-sends
returns-in-Some-Document-clause-sends g c =
    let text = shown_text c.args.editor.now (c.map.result.now).doc (ap (λ m. m.doc) c.map.ensures) in
    rw (c.in-Some-Document.is, c.in-Some-Document.field-0-is)
    (subst (Took g.W.Sink _ _) text c.in_ok-send_document-in-Some-Document.ensures.sends)

pub returns-in-Some-Document-clause-replied : goal.returns-in-Some-Document-clause-replied
returns-in-Some-Document-clause-replied g c = rw (c.in-Some-Document.is, c.in-Some-Document.field-0-is) (shown c.args.editor.now)

pub returns-in-Some-Document-clause-shown : goal.returns-in-Some-Document-clause-shown
returns-in-Some-Document-clause-shown g c =
    rw (c.in-Some-Document.is, c.in-Some-Document.field-0-is)
    (subst (λ (d : Document). Saved (text_of d) d) (ap (λ m. m.doc) c.map.ensures) c.send_document.ensures.saved)

pub returns-in_err-extend_from_slice-clause-sends : goal.returns-in_err-extend_from_slice-clause-sends
returns-in_err-extend_from_slice-clause-sends g c = sends_front of_device OutOfMemory _ c.from_residual-in_err-extend_from_slice.ensures.1 (took_none c.requires.works)
