use Rattle.kit_words.proofs.Common.{◌∙◌}
use Rattle.segment_sets.proofs.Branches.{first-gained, lie-one}
use Rattle.segment_sets.proofs.tree.leaf_of.Goals as goal

pub returns-clause-bounded : goal.returns-clause-bounded
returns-clause-bounded g c =
    rw c.rect.ensures (lie-one c.args.s c.put.new.self (first-gained c.args.s c.of-cell.result c.put.new.self (c.of-cell.ensures ∙ c.in_ok-with_capacity.ensures.items) c.in_ok-put.ensures.put))
