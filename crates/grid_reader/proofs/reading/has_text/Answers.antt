use Rattle.kit_words.proofs.Common.{sym, ◌∙◌, arith}
use Rattle.topo_outline.specs.Common.{view_item}
use Rattle.grid_reader.specs.Common.{is_kept_text}
use Rattle.grid_reader.proofs.Points.{found, passed, ended}
use Rattle.grid_reader.proofs.reading.has_text.Goals as goal

pub returns-then-is_text : goal.returns-then-is_text
returns-then-is_text g c = found is_kept_text view_item c.args.items.now c.loop-item.item-index _ c.item-item.result (omega arith) c.item-item.is (sym c.is_text.ensures ∙ c.if-is_text.true) c.loop-item.invariant

pub loop-item-preserved : goal.loop-item-preserved
loop-item-preserved g c = passed is_kept_text view_item c.args.items.now c.loop-item.item-index _ c.item-item.result (omega arith) c.item-item.is (sym c.is_text.ensures ∙ c.if-is_text.false) c.loop-item.invariant

pub returns : goal.returns
returns g c = ended is_kept_text view_item c.args.items.now c.loop-item.item-index _ (omega arith) c.loop-item.invariant
