use Rattle.kit_words.proofs.Common.{codes}
use Rattle.device_io.proofs.Common.{sends_front, took_both, took_first, took_second}
use Rattle.topo_writer.specs.Common.{of_device}
use Rattle.topo_writer.specs.declared.fault.WriteFault.TheVariants.{Device}
use Rattle.script_runner.proofs.sending.send_document.Goals as goal

pub returns-in_err-write-clause-sends : goal.returns-in_err-write-clause-sends
returns-in_err-write-clause-sends g c =
    sends_front of_device _ _ c.from_residual.ensures.1 (took_first (codes "\n") c.in_err-write.ensures.sends)

pub returns-in_err-put_all-clause-sends : goal.returns-in_err-put_all-clause-sends
returns-in_err-put_all-clause-sends g c =
    sends_front of_device Device _ c.from_residual-in_err-put_all.ensures.1
    (took_second c.in_ok-write.ensures.sends c.in_err-put_all.ensures)

pub returns-clause-sends : goal.returns-clause-sends
returns-clause-sends g c = took_both c.in_ok-write.ensures.sends c.in_ok-put_all.ensures
