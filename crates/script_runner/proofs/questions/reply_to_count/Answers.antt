use Rattle.script_runner.proofs.ReplyLemmas.{counted}
use Rattle.script_runner.proofs.questions.reply_to_count.Goals as goal

pub returns : goal.returns
returns g c =
    counted c.args.map.now.doc _ _ _ c.args.text.now.items c.push_counts.new.text.items c.feature_count.ensures c.vertex_count.ensures c.segment_count.ensures c.in_ok-push_counts.ensures
