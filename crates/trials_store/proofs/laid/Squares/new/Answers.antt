use Rattle.std.proofs.Common.{◌∙◌}
use Rattle.trials_store.proofs.NothingLaid.{stands_none, count_none}
use Rattle.trials_store.proofs.laid.Squares.new.Goals as goal

pub new-requires-4 : goal.new-requires-4
new-requires-4 c = count_none c.new-3.result c.new-3.ensures

pub returns : goal.returns
returns c =
    stands_none c.new.result c.new-2.result c.new-4.result.held c.new.ensures c.new-2.ensures (c.new-4.ensures.held ∙ c.new-3.ensures)
