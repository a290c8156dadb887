use Rattle.kit_words.proofs.Common.{append_assoc, codes, decimal, ◌∙◌, ap, ◌++◌}
use Rattle.script_runner.specs.Common.{position_text, segment_text}
use Rattle.script_runner.proofs.replies.push_refusal.Goals as goal

pub returns-in_ok-push_conflict-in-Conflict : goal.returns-in_ok-push_conflict-in-Conflict
returns-in_ok-push_conflict-in-Conflict g c =
    rw c.in-Conflict.is (c.in_ok-push_conflict-in-Conflict.ensures ∙ ap (λ t. t ++ (codes "conflict " ++ (segment_text c.in-Conflict.s ++ (codes " / " ++ segment_text c.in-Conflict.t)))) c.in_ok-extend_from_slice.ensures.items
    ∙ append_assoc c.args.text.now.items (codes "refused ") (codes "conflict " ++ (segment_text c.in-Conflict.s ++ (codes " / " ++ segment_text c.in-Conflict.t))))

pub returns-in_ok-push_runs-in-Runs : goal.returns-in_ok-push_runs-in-Runs
returns-in_ok-push_runs-in-Runs g c =
    rw c.in-Runs.is (c.in_ok-push_runs-in-Runs.ensures ∙ ap (λ t. t ++ (codes "runs " ++ decimal c.in-Runs.n)) c.in_ok-extend_from_slice.ensures.items
    ∙ append_assoc c.args.text.now.items (codes "refused ") (codes "runs " ++ decimal c.in-Runs.n))

pub returns-in_ok-push_common-in-CommonElse : goal.returns-in_ok-push_common-in-CommonElse
returns-in_ok-push_common-in-CommonElse g c =
    rw c.in-CommonElse.is (c.in_ok-push_common-in-CommonElse.ensures ∙ ap (λ t. t ++ (codes "common else " ++ position_text c.in-CommonElse.pos)) c.in_ok-extend_from_slice.ensures.items
    ∙ append_assoc c.args.text.now.items (codes "refused ") (codes "common else " ++ position_text c.in-CommonElse.pos))
