use Rattle.kit_words.proofs.Common.{◌≡◌, ◌∙◌, ap, ap₂, sym, subst, [], ◌++◌, Contains, filter, list_any}
use Rattle.grid_geometry.specs.Common.{Box}
use Rattle.ring_machine.proofs.Common.{in_permuted}
use Rattle.point_queries.specs.Common.{IsBoxAround}
use Rattle.arc_store.specs.Common.{ListsNear}
use Rattle.point_queries.specs.Common.{AreBehind, HaveOdd, ray_back, ray_to, HavePassed, is_name}
use Rattle.point_queries.proofs.NearRings.{in_back, in_front, read_back, tells_near}
use Rattle.point_queries.proofs.Odds.{odd-permuted}
use Rattle.point_queries.proofs.near.near_rings.Goals as goal

pub ray_to-requires-clause-ahead : goal.ray_to-requires-clause-ahead
ray_to-requires-clause-ahead g c =
    let r : Box = record { x0 = c.bounds.inside.x0; y0 = c.bounds.inside.y0; x1 = c.bounds.inside.x1; y1 = c.bounds.inside.y1 } in
    let around : IsBoxAround c.args.boxes.now c.args.p r = subst (IsBoxAround c.args.boxes.now c.args.p) (sym c.bounds.view_is) c.in_ok-bounds.ensures in
    in_front c.args.p r around.has_it c.bounds.invariant.most.across

pub ray_back-requires-clause-behind : goal.ray_back-requires-clause-behind
ray_back-requires-clause-behind g c =
    let r : Box = record { x0 = c.bounds.inside.x0; y0 = c.bounds.inside.y0; x1 = c.bounds.inside.x1; y1 = c.bounds.inside.y1 } in
    let around : IsBoxAround c.args.boxes.now c.args.p r = subst (IsBoxAround c.args.boxes.now c.args.p) (sym c.bounds.view_is) c.in_ok-bounds.ensures in
    in_back c.args.p r around.has_it c.bounds.invariant.least.across

pub rings_behind-requires : goal.rings_behind-requires
rings_behind-requires g c = λ s k.
    let near = c.in_ok-candidates.ensures.near in
    near.among s (subst (λ z. Contains z s) (c.as_slice-2.ensures.value ∙ near.appended ∙ ap (λ z. z ++ near.found) c.new-near.ensures.items) k)

pub returns : goal.returns
returns g c =
    let d = c.args.map.now.doc in
    let p = c.args.p in
    let r : Box = record { x0 = c.bounds.inside.x0; y0 = c.bounds.inside.y0; x1 = c.bounds.inside.x1; y1 = c.bounds.inside.y1 } in
    let around : IsBoxAround c.args.boxes.now p r = subst (IsBoxAround c.args.boxes.now p) (sym c.bounds.view_is) c.in_ok-bounds.ensures in
    let names = c.in_ok-names.names.items in
    let sorted = c.sort_names.new.names.items in
    let suspects = c.in_ok-suspects.suspects.items in
    let ss = c.candidates.new.out.items in
    let behind = c.in_ok-behind.behind.items in
    let h : HavePassed d p (ray_to p r.x1) names =
    subst (λ (z : Box). HavePassed d p z names) (c.ray_to.ensures ∙ ap (ray_to p) (read_back r.x1 c.bounds.invariant.most.across)) c.in_ok-names.ensures in
    let odds : HaveOdd sorted suspects = subst (λ z. HaveOdd z suspects) c.as_slice.ensures.value c.in_ok-suspects.ensures in
    let near : ListsNear d (ray_back p r.x0) [] ss =
    subst (λ (z : Box). ListsNear d z [] ss) (c.ray_back.ensures ∙ ap (ray_back p) (read_back r.x0 c.bounds.invariant.least.across))
    (subst (λ z. ListsNear d c.ray_back.result z ss) c.new-near.ensures.items c.in_ok-candidates.ensures.near) in
    let are : AreBehind d p suspects ss behind = subst (λ z. AreBehind d p suspects z behind) c.as_slice-2.ensures.value
    (subst (λ z. AreBehind d p z c.as_slice-2.result.now behind) c.as_slice-3.ensures.value c.in_ok-behind.ensures) in
    tells_near d c.frame.ensures.proper.are_rings p c.args.boxes.now c.requires r around.has_each names h ss near suspects behind are sorted
    (λ y. odd-permuted (is_name y) names sorted c.sort_names.ensures) (in_permuted names sorted c.sort_names.ensures) odds
    c.in_ok-found.found.items
    (c.in_ok-found.ensures ∙ ap₂ (λ os xs. filter (λ name. list_any (λ other. is_name other name) os) xs) c.as_slice-5.ensures.value c.as_slice-4.ensures.value)
