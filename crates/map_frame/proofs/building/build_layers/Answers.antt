use Rattle.kit_words.proofs.Common.{◌∙◌, refl, sym, ap, subst, length}
use Rattle.map_frame.specs.Common.{progress, CanTake, IsGeometry, AreSlots, AreLayers}
use Rattle.map_frame.proofs.Built.{geometry_built, LayersSoFar, room_first, layers_begin, layers_more, layers_end, leaves_of, all_leaves, all_leaves-cons}
use Rattle.map_frame.proofs.building.build_layers.Goals as goal

pub loop-raw-init : goal.loop-raw-init
loop-raw-init g c =
    let raws = c.into_iter-raw-iterator.result in
    layers_begin raws c.new-layers.result.items (progress c.args.gathered.now) c.new-layers.ensures.items
    (subst (λ z. CanTake (all_leaves z) (progress c.args.gathered.now)) (sym (c.into_iter-raw-iterator.ensures.into_iter_gives ∙ c.into_values-raw-items.ensures.rest))
    c.requires)

pub build_slots-requires : goal.build_slots-requires
build_slots-requires g c =
    let left = c.next.new.self in
    let now = progress c.loop-raw.gathered in
    room_first (leaves_of c.in-Some.raw.items.items) (all_leaves left) (all_leaves c.loop-raw.raw-iterator) now
    c.loop-raw.invariant.room (ap all_leaves c.in-Some.ensures.steps ∙ all_leaves-cons c.in-Some.raw left)

pub loop-raw-preserved : goal.loop-raw-preserved
loop-raw-preserved g c =
    let start = progress c.args.gathered.now in
    let raws = c.into_iter-raw-iterator.result in
    let now = progress c.loop-raw.gathered in
    let next = progress c.build_slots.new.gathered in
    let layers = c.loop-raw.layers in
    subst (λ z. LayersSoFar raws start c.next.new.self z next) (sym c.in_ok-push.ensures.items)
    (layers_more raws start c.loop-raw.raw-iterator c.next.new.self c.in-Some.raw
    layers.items (record { name = c.in-Some.raw.name; geometry = c.geometry_of.result }) now next c.loop-raw.invariant c.in-Some.ensures.steps refl
    (subst (λ k. IsGeometry (length layers.items) c.in-Some.raw.items.items k now next) (sym c.geometry_of.ensures)
    (geometry_built _ c.in-Some.raw.items.items c.in_ok-slots.slots now next
    (subst (λ n. AreSlots n 0 c.in-Some.raw.items.items c.in_ok-slots.slots.items now next) (c.len.ensures ∙ layers.ok.0) c.in_ok-slots.ensures))))

pub returns : goal.returns
returns g c =
    let start = progress c.args.gathered.now in
    let raws = c.into_iter-raw-iterator.result in
    let now = progress c.loop-raw.gathered in
    subst (λ z. AreLayers 0 z c.loop-raw.layers.items start now) (c.into_iter-raw-iterator.ensures.into_iter_gives ∙ c.into_values-raw-items.ensures.rest)
    (layers_end raws start c.loop-raw.raw-iterator c.loop-raw.layers.items now c.loop-raw.invariant c.in-None.ensures.steps.0)
