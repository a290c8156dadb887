-- What is kept of a vertex that was left out takes the edit back.
use Rattle.kit_words.proofs.Common.{◌≡◌, sym, subst, None, Some, OnOk, Result, Ok, Err}
use Rattle.grid_geometry.specs.Common.{Position}
use Rattle.ring_machine.specs.Common.{first_of, remove_refusals, del, around}
use Rattle.ring_machine.proofs.Common.{in_contains}
use Rattle.edit_records.specs.Common.{Removal, Removed, IsHeld, Takes}
use Rattle.edit_records.proofs.Common.{remove-recorded}
use Rattle.arc_store.specs.Common.{Edits, IsLeftOut, IsRecorded, State}
use Rattle.arc_store.specs.declared.fault.EditFault.{EditFault}

-- the vertex that was left out, and where it stood
pub removal_recorded : {R : Type 0} {old new : State} (result : Result R EditFault) (p : Position)
    → IsHeld old.places old.next old.doc
    → Edits old new result (first_of (remove_refusals old.doc p)) (record old { doc = del old.doc p; last = new.last })
    → OnOk result ((r : Removal) × (new.last ≡ Some (Removed r)) × IsLeftOut old.doc p r)
    → OnOk result (IsRecorded old new)
removal_recorded {old = old} (Ok x) p held edits made =
    let r = made.0 in
    let left = made.2 in
    let takes = remove-recorded old.places old.next old.doc held p r.a r.b edits.accepted left.apart (λ s i. left.between s (in_contains (around old.doc p) s i)) in
    subst (IsRecorded old) (sym edits.made)
    (Removed r, made.1, subst (λ at. Takes old.places old.next old.doc (del old.doc p) (Removed (record { at = at; a = r.a; b = r.b }))) (sym left.at) takes)
removal_recorded (Err fault) p held edits made = tt
