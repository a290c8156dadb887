use Rattle.kit_words.proofs.Common.{IfOk-weaker, IfErr-weaker}
use Rattle.script_runner.specs.Common.{devices_of}
use Rattle.script_runner.proofs.OpenLemmas.{ends_unopened}
use Rattle.script_runner.proofs.RunLemmas.{starts, completes, ends}
use Rattle.script_runner.proofs.running.run.Goals as goal

pub answer_and_save-requires-clause-begins : goal.answer_and_save-requires-clause-begins
answer_and_save-requires-clause-begins g c = starts c.in-Ok-new.editor.depth c.in-Ok-new.editor.map.doc c.new-runner.result c.new-runner.ensures

pub returns-clause-done : goal.returns-clause-done
returns-clause-done g c =
    IfOk-weaker c.answer_and_save.result _ _
    (λ summary h. completes c.args.map.now c.args.depth c.in-Ok.opened c.in-Ok-new.editor c.in-Ok-new.ensures.made c.in-Ok.ensures.opened c.new-runner.result c.new-runner.ensures
    (devices_of g.R.Source g.W.Sink g.V.Sink c.args.script.now c.args.out.now c.args.saved.now)
    (devices_of g.R.Source g.W.Sink g.V.Sink c.answer_and_save.new.script c.answer_and_save.new.out c.answer_and_save.new.saved) summary h)
    c.answer_and_save.ensures.done

pub returns-clause-fault : goal.returns-clause-fault
returns-clause-fault g c =
    IfErr-weaker c.answer_and_save.result _ _
    (λ fault h. ends c.args.map.now c.args.depth c.in-Ok.opened c.in-Ok-new.editor c.in-Ok-new.ensures.made c.in-Ok.ensures.opened c.new-runner.result c.new-runner.ensures
    (devices_of g.R.Source g.W.Sink g.V.Sink c.args.script.now c.args.out.now c.args.saved.now)
    (devices_of g.R.Source g.W.Sink g.V.Sink c.answer_and_save.new.script c.answer_and_save.new.out c.answer_and_save.new.saved) fault h)
    c.answer_and_save.ensures.fault

pub returns-in-Err-clause-fault : goal.returns-in-Err-clause-fault
returns-in-Err-clause-fault g c =
    ends_unopened c.in-Err.fault c.args.map.now c.args.depth (devices_of g.R.Source g.W.Sink g.V.Sink c.args.script.now c.args.out.now c.args.saved.now) c.in-Err.ensures.refused
