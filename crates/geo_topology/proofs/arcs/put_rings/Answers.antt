use Rattle.kit_words.proofs.Common.{◌∙◌}
use Rattle.json_spans.specs.Common.{node}
use Rattle.geo_topology.proofs.Texts.{ring_turn, rings_end, left_turn, counted, bracketed}
use Rattle.geo_topology.proofs.arcs.put_rings.Goals as goal

pub loop-ring-preserved : goal.loop-ring-preserved
loop-ring-preserved g c = (
  ring_turn _ _ _ _ _ _ _ _ _ _ c.in-Some.ensures.steps c.in_ok-put_comma.ensures.text (counted node _ _ _ c.in_ok-put_ring.ensures.rings) c.in_ok-put_ring.ensures.text c.loop-ring.invariant.0,
  c.in_ok-put_ring.ensures.parts ∙ c.in_ok-put_comma.ensures.parts ∙ c.loop-ring.invariant.1,
  left_turn _ _ _ _ _ _ c.in-Some.ensures.steps c.in_ok-put_ring.ensures.rings c.loop-ring.invariant.2,
)

pub returns-clause-text : goal.returns-clause-text
returns-clause-text g c = bracketed c.put-2.result c.args.made.now.text.items _ _ _ _ c.in_ok-put.ensures.text (rings_end _ _ _ _ _ c.in-None.ensures.steps.0 c.loop-ring.invariant.0) c.put-2.ensures.text
