-- A split that passes the conditions before planarity is refused by a later one.
use Rattle.kit_words.proofs.Common.{◌≡◌, ℕ, Bool, true, false, refl, sym, ap, ◌∙◌, [], ◌∷◌, Option, None, Some}
use Rattle.kit_words.proofs.Common.{false≢true}
use Rattle.grid_geometry.specs.Common.{Segment}
use Rattle.ring_machine.specs.Common.{Document, Text, first_pair, Path, cut, Refusal, Conflict, WrongSide, TooLarge}
use Rattle.ring_machine.specs.Common.{◌unless◌, first_of, conflict_of, split_refusals}
use Rattle.arc_store.specs.Common.{Refuses}
use Rattle.arc_store.specs.declared.fault.EditFault.{EditFault}
use Rattle.arc_store.specs.declared.fault.EditFault.TheVariants as edit
use Rattle.split_merge.specs.Common.{early_refusals, comes_before_pairs}
use Rattle.split_merge.proofs.FirstRefusal.{second_group}
use Rattle.split_merge.proofs.SplitConditions.{late_refusals, split_groups}

-- no refusal, or one that comes after the pairs of segments or by them
abbrev is_late : Option Refusal → Bool
is_late None = true
is_late (Some (Conflict s t)) = true
is_late (Some WrongSide) = true
is_late (Some TooLarge) = true
is_late (Some _) = false

late_end : (pair : Option (Segment × Segment)) (sided small : Bool)
    → is_late (first_of (conflict_of pair ∷ WrongSide unless sided ∷ TooLarge unless small ∷ [])) ≡ true
late_end (Some pair) sided small = refl
late_end None false small = refl
late_end None true false = refl
late_end None true true = refl

late_fault : (fault : EditFault) (refusal : Option Refusal) → is_late refusal ≡ true
    → Refuses fault refusal → comes_before_pairs fault ≡ false
late_fault (edit.Conflict s t) refusal l h = refl
late_fault edit.WrongSide refusal l h = refl
late_fault edit.TooLarge refusal l h = refl
late_fault edit.OutOfMemory refusal l h = refl
late_fault fault refusal l h = absurd (false≢true (sym (ap is_late h) ∙ l))

pub split_late : (d : Document) (next n : ℕ) (id : Text) (path : Path)
    → first_of (early_refusals d n path) ≡ None → (fault : EditFault)
    → Refuses fault (first_of (split_refusals d next n id path)) → comes_before_pairs fault ≡ false
split_late d next n id path passed fault h =
    let rest = ap first_of (split_groups d next n id path) ∙ second_group (early_refusals d n path) (late_refusals d next n id path) passed in
    late_fault fault (first_of (split_refusals d next n id path)) (ap is_late rest ∙ late_end (first_pair (cut d n id path next)) _ _) h

-- what is not early is not asked for
pub not_early : {P : Type 0} (fault : EditFault) → comes_before_pairs fault ≡ false → comes_before_pairs fault ≡ true → P
not_early fault h k = absurd (false≢true (sym h ∙ k))
