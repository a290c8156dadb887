use Rattle.kit_words.proofs.Common.{rules, subst}
use Rattle.device_io.specs.Common.{Sends}
use Rattle.device_io.proofs.Common.{sends_front, took_none}
use Rattle.map_text.specs.Common.{text_of}
use Rattle.topo_writer.specs.Common.{of_device, OutOfMemory}
use Rattle.topo_writer.proofs.SectionLemmas.{saved_text}
use Rattle.topo_writer.proofs.writing.write.Goals as goal

pub returns-in_err-marked-clause-sends : goal.returns-in_err-marked-clause-sends
returns-in_err-marked-clause-sends g c = sends_front of_device OutOfMemory _ c.from_residual.ensures.1 (took_none c.requires)

pub returns-in_err-marked-clause-saved : goal.returns-in_err-marked-clause-saved
returns-in_err-marked-clause-saved g c = search (rules, saved_text)

pub returns-clause-sends : goal.returns-clause-sends
returns-clause-sends g c =
    subst (λ d. Sends g.W.Sink of_device c.args.out.now c.send_map.new.out c.send_map.result (text_of d)) c.in_ok-marked.ensures c.send_map.ensures

pub returns-clause-saved : goal.returns-clause-saved
returns-clause-saved g c = search (rules, saved_text)
