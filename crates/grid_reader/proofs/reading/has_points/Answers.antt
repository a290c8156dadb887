use Rattle.kit_words.proofs.Common.{sym, ◌∙◌, arith}
use Rattle.topo_outline.specs.Common.{view_layer}
use Rattle.grid_reader.specs.Common.{has_text_in}
use Rattle.grid_reader.proofs.Points.{found, passed, ended}
use Rattle.grid_reader.proofs.reading.has_points.Goals as goal

pub returns-then-has_text : goal.returns-then-has_text
returns-then-has_text g c = found has_text_in view_layer c.args.layers.now c.loop-layer.layer-index _ c.layer-item.result (omega arith) c.layer-item.is (sym (rw c.as_slice.ensures.value at c.has_text.ensures) ∙ c.if-has_text.true) c.loop-layer.invariant

pub loop-layer-preserved : goal.loop-layer-preserved
loop-layer-preserved g c = passed has_text_in view_layer c.args.layers.now c.loop-layer.layer-index _ c.layer-item.result (omega arith) c.layer-item.is (sym (rw c.as_slice.ensures.value at c.has_text.ensures) ∙ c.if-has_text.false) c.loop-layer.invariant

pub returns : goal.returns
returns g c = ended has_text_in view_layer c.args.layers.now c.loop-layer.layer-index _ (omega arith) c.loop-layer.invariant
