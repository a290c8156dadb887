use Rattle.kit_words.proofs.Common.{◌∙◌, ap, subst, [], map, flat_map}
use Rattle.arc_store.specs.Common.{ListsNear, ListsRingNames}
use Rattle.point_queries.specs.Common.{on_edge}
use Rattle.point_queries.proofs.OnBorders.{box_at, border_are}
use Rattle.point_queries.proofs.border.border_at.Goals as goal

pub returns : goal.returns
returns g c =
    let d = c.args.map.now.doc in
    let p = c.args.p in
    let near = c.candidates.new.out.items in
    let names = c.push_on.new.out.items in
    let found = c.in_ok-found.found.items in
    let n : ListsNear d (box_at p) [] near =
    subst (λ z. ListsNear d z [] near) c.box_at.ensures
    (subst (λ z. ListsNear d c.box_at.result z near) c.new-near.ensures.items c.in_ok-candidates.ensures.near) in
    let l : ListsRingNames d (flat_map (on_edge p) near) [] names =
    subst (λ z. ListsRingNames d (flat_map (on_edge p) z) [] names) c.as_slice.ensures.value
    (subst (λ z. ListsRingNames d (flat_map (on_edge p) c.as_slice.result.now) z names) c.new-names.ensures.items c.in_ok-push_on.ensures) in
    border_are d c.in_ok-candidates.ensures.distinct p near n names l found c.sort_once.new.found.items
    (c.in_ok-found.ensures ∙ ap (map (λ name. name.feature)) c.as_slice-2.ensures.value) c.sort_once.ensures
