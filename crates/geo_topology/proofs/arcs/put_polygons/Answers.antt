use Rattle.kit_words.proofs.Common.{◌∙◌}
use Rattle.json_spans.specs.Common.{node}
use Rattle.geo_topology.proofs.Texts.{polygon_turn, polygons_end, items_turn, counted_all, bracketed}
use Rattle.geo_topology.proofs.arcs.put_polygons.Goals as goal

pub loop-polygon-preserved : goal.loop-polygon-preserved
loop-polygon-preserved g c = (
  polygon_turn _ _ _ _ _ _ _ _ _ _ c.in-Some.ensures.steps c.in_ok-put_comma.ensures.text (counted_all node _ _ _ c.in_ok-put_rings.ensures.rings) c.in_ok-put_rings.ensures.text c.loop-polygon.invariant.0,
  c.in_ok-put_rings.ensures.parts ∙ c.in_ok-put_comma.ensures.parts ∙ c.loop-polygon.invariant.1,
  items_turn _ _ _ _ _ _ c.in-Some.ensures.steps c.in_ok-put_rings.ensures.rings c.loop-polygon.invariant.2,
)

pub returns-clause-text : goal.returns-clause-text
returns-clause-text g c = bracketed c.put-2.result c.args.made.now.text.items _ _ _ _ c.in_ok-put.ensures.text (polygons_end _ _ _ _ _ c.in-None.ensures.steps.0 c.loop-polygon.invariant.0) c.put-2.ensures.text
