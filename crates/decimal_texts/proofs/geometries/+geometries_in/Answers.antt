use Rattle.kit_words.proofs.Common.{ap, ◌∙◌}
use Rattle.json_spans.specs.Common.{node, items_left}
use Rattle.decimal_texts.proofs.Walking.{at_end, shape_pushed, of_none, of_items}
use Rattle.decimal_texts.proofs.geometries.+geometries_in.Goals as goal

pub returns-then-depth-eq0 : goal.returns-then-depth-eq0
returns-then-depth-eq0 g t c = at_end c.args.shape c.args.depth _ _ c.if-depth-eq0.true

pub returns-then-found : goal.returns-then-found
returns-then-found g t c = shape_pushed c.args.shape c.args.depth c.args.span _ _ _ c.if-depth-eq0.false c.in_ok-found.ensures c.if-found.true c.in_ok-push.ensures.items

pub returns-in-None : goal.returns-in-None
returns-in-None g t c = of_none c.args.shape c.args.depth (node c.args.span) _ _ c.if-depth-eq0.false c.in_ok-found.ensures c.if-found.false (rw c.in-None.is at c.in_ok-list.ensures)

pub loop-part-init : goal.loop-part-init
loop-part-init g t c = of_items c.args.shape c.args.depth (node c.args.span) (node c.in-Some.list) _ _ _ c.if-depth-eq0.false c.in_ok-found.ensures c.if-found.false (rw c.in-Some.is at c.in_ok-list.ensures) (ap items_left c.into_iter-part-iterator.ensures.into_iter_gives ∙ c.items-part-items.ensures.value)
