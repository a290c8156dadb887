use Rattle.kit_words.proofs.Common.{codes, ap, ◌∙◌, ◌++◌, append_assoc}
use Rattle.script_runner.proofs.replies.push_ok.Goals as goal

pub returns : goal.returns
returns g c =
    c.in_ok-push_number.ensures ∙ ap (λ t. t ++ g.I.Integer.text c.args.number) c.in_ok-extend_from_slice.ensures.items
    ∙ append_assoc c.args.text.now.items (codes "ok ") (g.I.Integer.text c.args.number)
