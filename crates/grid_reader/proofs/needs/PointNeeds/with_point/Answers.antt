use Rattle.kit_words.proofs.Common.{sym, ◌∙◌}
use Rattle.json_spans.specs.Common.{node}
use Rattle.grid_reader.proofs.Needing.{no_position, one_position, one_list}
use Rattle.grid_reader.proofs.needs.PointNeeds.with_point.Goals as goal

pub returns-then-one : goal.returns-then-one
returns-then-one c =
    one_position c.args.self _ (node c.in-Some.value) _ _ (sym c.in_ok-one.ensures ∙ c.if-one.true) (rw c.in-Some.is at c.in_ok-value.ensures)
    c.with_position.ensures

pub returns-else-one : goal.returns-else-one
returns-else-one c =
    one_list c.args.self _ (node c.in-Some.value) _ _ (sym c.in_ok-one.ensures ∙ c.if-one.false) (rw c.in-Some.is at c.in_ok-value.ensures)
    c.with_positions.ensures

pub returns-in-None : goal.returns-in-None
returns-in-None c = no_position c.args.self _ _ (rw c.in-None.is at c.in_ok-value.ensures)
