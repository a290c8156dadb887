-- What a move is refused by, from whether there are vertices at both positions.
use Rattle.kit_words.proofs.Common.{◌≡◌, Bool, true, false, ap, ap₂, ◌∙◌, [], ◌∷◌, Option, Some, not}
use Rattle.grid_geometry.specs.Common.{Position}
use Rattle.ring_machine.specs.Common.{Document, is_vertex, put, first_pair, move_sweeps, Refusal, NoVertex, Occupied}
use Rattle.ring_machine.specs.Common.{Sweeps, ◌unless◌, first_of, planar, move_refusals}
use Rattle.arc_store.specs.Common.{Refuses}
use Rattle.arc_store.specs.declared.fault.EditFault.{EditFault}
use Rattle.edit_vertex.specs.Common.{needs_no_pairs}
use Rattle.edit_vertex.proofs.Late.{is_late, late_end, late_fault}

-- the first refusal by the answers
abbrev move_by : Option Refusal → Bool → Bool → Bool → Option Refusal
move_by conflict sweeps vertex occupied = first_of (
    NoVertex unless vertex
    ∷ Occupied unless not occupied
    ∷ conflict
    ∷ Sweeps unless not sweeps
    ∷ []
    )

module _ (d : Document) (p q : Position) where
  abbrev by : Bool → Bool → Option Refusal
  by vertex occupied = move_by (planar (put d p q)) (move_sweeps d p q) vertex occupied

  pub move_no_vertex : is_vertex d p ≡ false → first_of (move_refusals d p q) ≡ Some NoVertex
  unfolding move_refusals
  move_no_vertex h = ap (λ v. by v (is_vertex d q)) h

  pub move_occupied : is_vertex d p ≡ true → is_vertex d q ≡ true
      → first_of (move_refusals d p q) ≡ Some Occupied
  unfolding move_refusals
  move_occupied h k = ap₂ by h k

  pub move_late : is_vertex d p ≡ true → is_vertex d q ≡ false → (fault : EditFault)
      → Refuses fault (first_of (move_refusals d p q)) → needs_no_pairs fault ≡ false
  unfolding move_refusals
  move_late h k fault r =
      late_fault fault (first_of (move_refusals d p q)) (ap is_late (ap₂ by h k) ∙ late_end (first_pair (put d p q)) (not (move_sweeps d p q))) r
