use Rattle.kit_words.proofs.Common.{◌<◌, ◌≤◌, subst, [], length, get_or, arith, flat_map}
use Rattle.std.proofs.Common.{take_all}
use Rattle.grid_geometry.specs.Common.{edges}
use Rattle.ring_machine.specs.Common.{feature_at}
use Rattle.arc_store.specs.Common.{ListsRingNames}
use Rattle.point_queries.proofs.Sharers.{users_more}
use Rattle.point_queries.proofs.Shows.{ring_is}
use Rattle.point_queries.proofs.sharing.push_polygon.Goals as goal

pub loop-ring-preserved : goal.loop-ring-preserved
loop-ring-preserved g c =
    let d = c.args.map.now.doc in
    let rings = get_or (feature_at d c.args.f).polygons c.args.polygon [] in
    let within : c.loop-ring.ring < length rings = omega (arith, c.requires, c.loop-ring-test.true) in
    let old = c.loop-ring.out.items in
    let new = c.push_sharing.new.out.items in
    users_more edges d rings c.loop-ring.ring [] c.args.out.now.items old new within c.loop-ring.invariant
    (subst (λ ps. ListsRingNames d (edges ps) old new) (ring_is d c.args.f c.args.polygon c.loop-ring.ring) c.in_ok-push_sharing.ensures)

pub returns : goal.returns
returns g c =
    let d = c.args.map.now.doc in
    let rings = get_or (feature_at d c.args.f).polygons c.args.polygon [] in
    let past : length rings ≤ c.loop-ring.ring = omega (arith, c.requires, c.loop-ring-test.false) in
    subst (λ rs. ListsRingNames d (flat_map edges rs) c.args.out.now.items c.loop-ring.out.items) (take_all c.loop-ring.ring rings past) c.loop-ring.invariant
