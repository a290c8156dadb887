use Rattle.kit_words.proofs.Common.{◌∙◌, ap, arith}
use Rattle.grid_geometry.specs.Common.{edges}
use Rattle.geo_text.proofs.Sides.{longest_of, rings_turn}
use Rattle.geo_text.proofs.longest.with_rings.Goals as goal

pub loop-ring-preserved : goal.loop-ring-preserved
loop-ring-preserved g c = record {
  value = rings_turn c.args.before _ _ c.args.rings.now c.loop-ring.ring-index c.ring-item.result (omega arith) c.ring-item.is c.loop-ring.invariant.value
      (c.with_ring-longest.ensures.value ∙ ap (λ z. longest_of c.loop-ring.longest (edges z)) c.as_slice.ensures.value);
  bound = c.with_ring-longest.ensures.bound;
}
