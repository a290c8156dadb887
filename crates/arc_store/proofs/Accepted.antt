-- An edit of one vertex that is not refused may change the tables.
use Rattle.kit_words.proofs.Common.{◌≡◌, ◌≢◌, ◌≤◌, None}
use Rattle.grid_geometry.specs.Common.{Position}
use Rattle.ring_machine.specs.Common.{Document, size, first_of, move_refusals, insert_refusals, remove_refusals, ins}
use Rattle.ring_machine.proofs.Common.{move-accepted, insert-accepted, remove-accepted}
use Rattle.arc_store.specs.Common.{IsMovable, IsPlaceable, IsLeavable}

pub move_may : (d : Document) (p q : Position) → first_of (move_refusals d p q) ≡ None
    → IsMovable d p q
move_may d p q none =
    let a = move-accepted d p q none in
    record { vertex = a.vertex; free = a.free; apart = a.apart }

pub insert_may : (d : Document) (a b q : Position) → a ≢ b → size (ins d a b q) ≤ 4000000
    → first_of (insert_refusals d a b q) ≡ None → IsPlaceable d a b q
insert_may d a b q different small none =
    let c = insert-accepted d a b q none in
    record { different = different; border = c.border; free = c.free; small = small; apart = c.apart }

pub remove_may : (d : Document) (p : Position) → first_of (remove_refusals d p) ≡ None
    → IsLeavable d p
remove_may d p none =
    let a = remove-accepted d p none in
    record { vertex = a.vertex; inner = a.single; long = a.long; unjoined = a.bridge_is_new; apart = a.apart }
