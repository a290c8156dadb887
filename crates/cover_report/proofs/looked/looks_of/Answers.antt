use Rattle.kit_words.proofs.Common.{◌+◌, ap, arith, drop, drop_all, into_iter_items, map, next_drop, subst, sym}
use Rattle.layer_sides.specs.Common.{IsProperLayer}
use Rattle.topo_outline.specs.Common.{view_layer}
use Rattle.topo_reader.specs.Common.{feature_positions}
use Rattle.cover_report.specs.Layers.{asked_layers, polygons_in, view_looked}
use Rattle.cover_report.proofs.Looks.{GoesOn, goes_begun, goes_end, leaves_here, turned_on}
use Rattle.cover_report.proofs.TakenLayers.{left_proper}
use Rattle.cover_report.proofs.looked.looks_of.Goals as goal

pub loop-layer-init : goal.loop-layer-init
loop-layer-init g c = record {
  few = omega (arith, c.requires.few);
  proper = subst (λ xs. IsProperLayer (polygons_in (map feature_positions xs))) (sym c.into_iter.ensures.rest) c.requires.proper;
  found = goes_begun feature_positions view_looked (map (λ name. name.now) c.args.names.now) (map view_layer c.args.layers.now) (into_iter_items c.into_iter.result) c.args.features.items
      c.new.result.items c.into_iter.ensures.rest c.new.ensures.items;
}

pub step-requires-clause-few : goal.step-requires-clause-few
step-requires-clause-few g c =
    omega (arith, leaves_here c.args.layers.now c.loop-layer.layer-index c.layer-item.result c.loop-layer-test.true c.layer-item.is, c.loop-layer.invariant.few)

pub loop-layer-preserved : goal.loop-layer-preserved
loop-layer-preserved g c =
    let layers = c.args.layers.now in
    let layer = c.layer-item.result in
    let i = c.loop-layer.layer-index in
    let names = map (λ name. name.now) c.args.names.now in
    let whole = asked_layers names 0 (map feature_positions c.args.features.items) (map view_layer layers) in
    let was = c.loop-layer.looks in
    let now = c.step.new.self in
    let rest = into_iter_items was.rest in
    let left = into_iter_items now.rest in
    let found = map view_looked was.looks.items in
    record {
      few = omega (arith, leaves_here layers i layer c.loop-layer-test.true c.layer-item.is, c.in-Ok.ensures.first, c.loop-layer.invariant.few);
      proper = left_proper feature_positions rest _ left c.loop-layer.invariant.proper c.in-Ok.ensures.rest;
      found = turned_on names whole feature_positions (view_layer layer) (map view_layer (drop (i + 1) layers)) c.in_ok-is_asked.is_asked was.first now.first rest left
          found (map view_looked now.looks.items) c.in_ok-is_asked.ensures (λ e. ap (map view_looked) (c.in-Ok.ensures.passed e)) c.in-Ok.ensures.looked
          c.in-Ok.ensures.first c.in-Ok.ensures.rest
          (subst (λ ls. GoesOn names whole was.first (map feature_positions rest) (map view_layer ls) found) (next_drop layers i layer c.loop-layer-test.true c.layer-item.is)
          c.loop-layer.invariant.found);
    }

pub returns-clause-found : goal.returns-clause-found
returns-clause-found g c =
    let layers = c.args.layers.now in
    let names = map (λ name. name.now) c.args.names.now in
    goes_end names (asked_layers names 0 (map feature_positions c.args.features.items) (map view_layer layers)) c.loop-layer.looks.first
    (map feature_positions (into_iter_items c.loop-layer.looks.rest)) (map view_layer (drop c.loop-layer.layer-index layers)) (map view_looked c.loop-layer.looks.looks.items)
    (ap (map view_layer) (drop_all c.loop-layer.layer-index layers c.loop-layer-test.false)) c.loop-layer.invariant.found
