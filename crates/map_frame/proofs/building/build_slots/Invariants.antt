use Rattle.kit_words.proofs.Common.{into_iter_items}
use Rattle.map_frame.specs.Common.{progress}
use Rattle.map_frame.proofs.Built.{SlotsSoFar}
use Rattle.map_frame.proofs.building.build_slots.Given as goal

-- with those of the items that are left they are the slots of all items
abbrev pub invariant-loop-item : goal.invariant-loop-item
invariant-loop-item g l =
    SlotsSoFar l.layer (into_iter_items l.initial.item-iterator) (progress l.fn.gathered)
    (into_iter_items l.item-iterator) l.slots.items (progress l.gathered)
