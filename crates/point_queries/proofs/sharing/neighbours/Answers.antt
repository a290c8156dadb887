use Rattle.kit_words.proofs.Common.{◌≡◌, ◌<◌, ◌≤◌, ◌∙◌, sym, ap, subst, true, [], length, arith, map, IfErr, is_some}
use Rattle.kit_words.proofs.Common.{not, ◌==◌, filter, flat_map, err_from_is_err_and}
use Rattle.std.proofs.Common.{take_all}
use Rattle.grid_geometry.specs.Common.{edges}
use Rattle.ring_machine.specs.Common.{has_feature, feature_at}
use Rattle.point_queries.specs.Common.{IsFaultOf}
use Rattle.arc_store.specs.Common.{ListsRingNames}
use Rattle.point_queries.proofs.SharedBorders.{edges_of, shown_number, neighbours_are}
use Rattle.point_queries.proofs.Sharers.{users_more}
use Rattle.point_queries.proofs.Shows.{length_shown, count_shown, is_shown}
use Rattle.point_queries.proofs.sharing.neighbours.Goals as goal

pub returns-in_default-clause-fault : goal.returns-in_default-clause-fault
returns-in_default-clause-fault g c =
    is_shown c.args.map.now.doc c.args.f ∙ ap is_some (sym c.feature.ensures.shown ∙ c.in_default.is)

pub push_polygon-requires : goal.push_polygon-requires
push_polygon-requires g c =
    c.ring_count.ensures ∙ count_shown c.args.map.now.doc c.args.f c.in-Some.feature (sym c.in-Some.is ∙ c.feature.ensures.shown) c.loop-polygon.polygon

pub returns-in_err-push_polygon-clause-fault : goal.returns-in_err-push_polygon-clause-fault
returns-in_err-push_polygon-clause-fault g c =
    let d = c.args.map.now.doc in
    let there : has_feature d c.args.f ≡ true = is_shown d c.args.f ∙ ap is_some (sym c.feature.ensures.shown ∙ c.in-Some.is) in
    let p = err_from_is_err_and c.from_residual.result c.from_residual.ensures.1 in
    subst (λ r. IfErr r (λ fault. IsFaultOf d c.args.f fault)) (sym p.1) (subst (IsFaultOf d c.args.f) (sym p.2) there)

pub loop-polygon-preserved : goal.loop-polygon-preserved
loop-polygon-preserved g c =
    let d = c.args.map.now.doc in
    let polygons = (feature_at d c.args.f).polygons in
    let long = c.polygon_count-polygon-end.ensures ∙ length_shown d c.args.f c.in-Some.feature (sym c.in-Some.is ∙ c.feature.ensures.shown) in
    let within : c.loop-polygon.polygon < length polygons = omega (arith, long, c.loop-polygon-test.true) in
    users_more (flat_map edges) d polygons c.loop-polygon.polygon [] [] c.loop-polygon.names.items c.push_polygon.new.out.items within
    c.loop-polygon.invariant c.in_ok-push_polygon.ensures

pub returns-in_err-found-clause-fault : goal.returns-in_err-found-clause-fault
returns-in_err-found-clause-fault g c =
    let d = c.args.map.now.doc in
    let there : has_feature d c.args.f ≡ true = is_shown d c.args.f ∙ ap is_some (sym c.feature.ensures.shown ∙ c.in-Some.is) in
    let p = err_from_is_err_and c.from_residual-in_err-found.result c.from_residual-in_err-found.ensures.1 in
    subst (λ r. IfErr r (λ fault. IsFaultOf d c.args.f fault)) (sym p.1) (subst (IsFaultOf d c.args.f) (sym p.2) there)

pub returns-clause-found : goal.returns-clause-found
returns-clause-found g c =
    let d = c.args.map.now.doc in
    let f = feature_at d c.args.f in
    let polygons = f.polygons in
    let shows = sym c.in-Some.is ∙ c.feature.ensures.shown in
    let long = c.polygon_count-polygon-end.ensures ∙ length_shown d c.args.f c.in-Some.feature shows in
    let past : length polygons ≤ c.loop-polygon.polygon = omega (arith, long, c.loop-polygon-test.false) in
    let names = c.loop-polygon.names.items in
    let lists : ListsRingNames d (edges_of f) [] names =
    subst (λ ps. ListsRingNames d (flat_map (flat_map edges) ps) [] names) (take_all c.loop-polygon.polygon polygons past) c.loop-polygon.invariant in
    neighbours_are d c.feature.ensures.distinct f c.args.f (shown_number d c.args.f c.in-Some.feature shows) names lists
    c.in_ok-found.found.items c.sort_once.new.found.items
    (c.in_ok-found.ensures ∙ ap (λ z. filter (λ m. not (m == c.args.f)) (map (λ name. name.feature) z)) c.as_slice.ensures.value)
    c.sort_once.ensures

pub returns-clause-there : goal.returns-clause-there
returns-clause-there g c =
    is_shown c.args.map.now.doc c.args.f ∙ ap is_some (sym c.feature.ensures.shown ∙ c.in-Some.is)
