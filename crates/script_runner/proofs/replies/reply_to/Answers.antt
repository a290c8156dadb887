use Rattle.edit_records.specs.Common.{command_of}
use Rattle.script_runner.proofs.ReplyLemmas.{applied, failed}
use Rattle.script_runner.proofs.replies.reply_to.Goals as goal

pub returns-in_ok-push_answer-in-Ok : goal.returns-in_ok-push_answer-in-Ok
returns-in_ok-push_answer-in-Ok g c =
    applied c.args.editor.now c.apply.new.self (command_of c.args.command) c.in-Ok.answer c.args.text.now.items c.push_answer.new.text.items c.in-Ok.ensures.applied c.in_ok-push_answer-in-Ok.ensures

pub returns-in_ok-push_refusal-in-Err : goal.returns-in_ok-push_refusal-in-Err
returns-in_ok-push_refusal-in-Err g c =
    failed c.args.editor.now c.apply.new.self (command_of c.args.command) c.in-Err.fault c.args.text.now.items c.push_refusal.new.text.items c.in-Err.ensures.failed c.in_ok-push_refusal-in-Err.ensures
