use Rattle.kit_words.proofs.Common.{codes, ap, ◌∙◌, ◌++◌, append_assoc}
use Rattle.script_runner.specs.Common.{spaced_numbers}
use Rattle.script_runner.proofs.replies.push_neighbours.Goals as goal

pub returns : goal.returns
returns g c =
    c.in_ok-push_features.ensures ∙ ap (λ t. t ++ spaced_numbers c.args.found.now) c.in_ok-extend_from_slice.ensures.items
    ∙ append_assoc c.args.text.now.items (codes "neighbours:") (spaced_numbers c.args.found.now)
