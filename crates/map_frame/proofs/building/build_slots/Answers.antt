use Rattle.kit_words.proofs.Common.{◌∙◌, sym, ap, subst, [], ◌∷◌, into_iter_items, into_iter_len, nothing_left}
use Rattle.map_frame.specs.Common.{progress, CanTake, IsSlot, AreSlots}
use Rattle.map_frame.proofs.Built.{SlotsSoFar, room_first, slots_begin, slots_more, slots_end, leaves_of, leaves_of-cons}
use Rattle.map_frame.proofs.building.build_slots.Goals as goal

pub loop-item-init : goal.loop-item-init
loop-item-init g c =
    let it = c.into_iter-item-iterator in
    slots_begin c.args.layer (into_iter_items it.result) c.new-slots.result.items
    (progress c.args.gathered.now) c.new-slots.ensures.items
    (subst (λ z. CanTake (leaves_of z) (progress c.args.gathered.now)) (sym it.ensures.into_iter_gives.0)
    c.requires)

pub build_slot-requires : goal.build_slot-requires
build_slot-requires g c =
    let left = into_iter_items c.next.new.self in
    let now = progress c.loop-item.gathered in
    room_first (leaves_of (c.in-Some.item ∷ [])) (leaves_of left) (leaves_of (into_iter_items c.loop-item.item-iterator)) now
    c.loop-item.invariant.room (ap leaves_of c.in-Some.ensures.steps.0 ∙ leaves_of-cons c.in-Some.item left)

pub loop-item-preserved : goal.loop-item-preserved
loop-item-preserved g c =
    let start = progress c.args.gathered.now in
    let items = into_iter_items c.into_iter-item-iterator.result in
    let now = progress c.loop-item.gathered in
    let next = progress c.build_slot.new.gathered in
    let slots = c.loop-item.slots in
    subst (λ z. SlotsSoFar c.args.layer items start (into_iter_items c.next.new.self) z next) (sym c.in_ok-push.ensures.items)
    (slots_more c.args.layer items start (into_iter_items c.loop-item.item-iterator) (into_iter_items c.next.new.self) c.in-Some.item
    slots.items c.in_ok-slot.slot now next c.loop-item.invariant c.in-Some.ensures.steps.0
    (subst (λ n. IsSlot c.args.layer n c.in-Some.item c.in_ok-slot.slot now next) (c.len.ensures ∙ slots.ok.0) c.in_ok-slot.ensures))

pub returns : goal.returns
returns g c =
    let start = progress c.args.gathered.now in
    let it = c.into_iter-item-iterator in
    let items = into_iter_items it.result in
    let now = progress c.loop-item.gathered in
    subst (λ z. AreSlots c.args.layer 0 z c.loop-item.slots.items start now) it.ensures.into_iter_gives.0
    (slots_end c.args.layer items start (into_iter_items c.loop-item.item-iterator) c.loop-item.slots.items now c.loop-item.invariant
    (nothing_left (into_iter_items c.loop-item.item-iterator) (into_iter_len c.loop-item.item-iterator) c.loop-item.item-iterator.rest.ok.0 c.in-None.ensures.steps.0))
