use Rattle.kit_words.proofs.Common.{sym, ◌∙◌}
use Rattle.json_spans.specs.Common.{node}
use Rattle.decimal_texts.proofs.Finding.{no_position, one_position, one_list}
use Rattle.decimal_texts.proofs.points.push_coordinates.Goals as goal

pub returns-in-None : goal.returns-in-None
returns-in-None g c = no_position _ _ _ (rw c.in-None.is at c.in_ok-value.ensures)

pub returns-then-one : goal.returns-then-one
returns-then-one g c =
    one_position (node c.in-Some.value) _ _ _ _ (sym c.in_ok-one.ensures ∙ c.if-one.true) (rw c.in-Some.is at c.in_ok-value.ensures)
    c.in_ok-push_pair.ensures

pub returns : goal.returns
returns g c =
    one_list (node c.in-Some.value) _ _ _ _ (sym c.in_ok-one.ensures ∙ c.if-one.false) (rw c.in-Some.is at c.in_ok-value.ensures)
    c.in_ok-push_pairs.ensures
