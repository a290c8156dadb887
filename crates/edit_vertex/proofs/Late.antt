-- An edit that passes the conditions before planarity is refused by a later one.
use Rattle.kit_words.proofs.Common.{◌≡◌, Bool, true, false, refl, sym, ap, ◌∙◌, [], ◌∷◌, Option, None, Some, false≢true}
use Rattle.grid_geometry.specs.Common.{Segment}
use Rattle.ring_machine.specs.Common.{Refusal, Sweeps, Conflict, ◌unless◌, first_of, conflict_of}
use Rattle.arc_store.specs.Common.{Refuses}
use Rattle.arc_store.specs.declared.fault.EditFault.{EditFault}
use Rattle.arc_store.specs.declared.fault.EditFault.TheVariants as edit
use Rattle.edit_vertex.specs.Common.{needs_no_pairs}

-- no refusal, or one by what pairs of segments decide
abbrev pub is_late : Option Refusal → Bool
is_late None = true
is_late (Some Sweeps) = true
is_late (Some (Conflict s t)) = true
is_late (Some _) = false

pub late_end : (pair : Option (Segment × Segment)) (still : Bool)
    → is_late (first_of (conflict_of pair ∷ Sweeps unless still ∷ [])) ≡ true
late_end None true = refl
late_end None false = refl
late_end (Some pair) still = refl

pub late_fault : (fault : EditFault) (refusal : Option Refusal) → is_late refusal ≡ true
    → Refuses fault refusal → needs_no_pairs fault ≡ false
late_fault (edit.Conflict s t) refusal l h = refl
late_fault edit.Sweeps refusal l h = refl
late_fault edit.OutOfMemory refusal l h = refl
late_fault fault refusal l h = absurd (false≢true (sym (ap is_late h) ∙ l))

-- what is not early is not asked for
pub not_early : {P : Type 0} (fault : EditFault) → needs_no_pairs fault ≡ false → needs_no_pairs fault ≡ true → P
not_early fault h k = absurd (false≢true (sym h ∙ k))
