use Rattle.kit_words.proofs.Common.{codes}
use Rattle.script_runner.specs.Common.{spaced_numbers}
use Rattle.script_runner.proofs.ListLemmas.{two_lists}
use Rattle.script_runner.proofs.replies.push_at.Goals as goal

pub returns : goal.returns
returns g c =
    two_lists (codes "inside:") (codes " border:") (spaced_numbers c.args.found.now.inside) (spaced_numbers c.args.found.now.border) c.args.text.now.items
    c.extend_from_slice.new.self.items c.push_features.new.text.items c.extend_from_slice-2.new.self.items c.push_features-2.new.text.items
    c.in_ok-extend_from_slice.ensures.items c.in_ok-push_features.ensures c.in_ok-extend_from_slice-2.ensures.items c.in_ok-push_features-2.ensures
