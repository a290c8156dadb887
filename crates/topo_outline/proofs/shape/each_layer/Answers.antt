use Rattle.kit_words.proofs.Common.{arith, map-append, ◌∙◌}
use Rattle.indexmap.proofs.CallerLemmas.{index_map_len-with_value_at}
use Rattle.topo_outline.specs.Shape.{layer}
use Rattle.topo_outline.specs.Common.{view_entry}
use Rattle.topo_outline.proofs.Layering.{values_written}
use Rattle.topo_outline.proofs.Walking.{each_drop_turn}
use Rattle.topo_outline.proofs.shape.each_layer.Goals as goal

pub loop-i-preserved : goal.loop-i-preserved
loop-i-preserved g c = (
  rw (values_written c.loop-i.found c.loop-i.i c.in-Ok.value (omega (arith, c.loop-i.invariant.1)), map-append) (each_drop_turn layer view_entry _ _ c.args.names.now c.loop-i.i c.index-names-i.result _ (omega arith) c.index-names-i.is c.in-Ok.ensures c.loop-i.invariant.0),
  index_map_len-with_value_at c.loop-i.found c.loop-i.i c.in-Ok.value ∙ c.loop-i.invariant.1,
)
