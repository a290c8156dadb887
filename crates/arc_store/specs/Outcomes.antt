-- What an edit makes of a map.
use Rattle.std.specs.Prelude.{ℕ, ◌≡◌, ◌+◌, [], ◌∷◌, Option, Some, None, Result, OnOk, OnErr, IfErr}
use Rattle.ring_machine.specs.Common.{Refusal, Path, cut, Text, feature}
use Rattle.edit_records.specs.Common.{grown, Exchanged}
use Rattle.arc_store.specs.Faults.{Refuses}
use Rattle.arc_store.specs.State.{State}
use Rattle.arc_store.specs.declared.fault.EditFault.{EditFault}

-- the same but for how many tests were made
abbrev pub IsSameMap : State → State → Type 0
IsSameMap old new = new ≡ record old { tests = new.tests }

-- an edit has begun: no test was made so far, and nothing is to be taken back
abbrev pub edit_begun : State → State
edit_begun s = record s { tests = 0; last = None }

-- feature n is cut along a path, and the new part, which has this id, has the next number and stands
-- directly after it; both features as they were are kept, the new one as none
abbrev pub split_map : State → ℕ → Text → Path → State
split_map s n id path = record s {
  doc = cut s.doc n id path s.next;
  next = s.next + 1;
  places = grown n s.next s.places;
  last = Some (Exchanged ((n, feature s.doc n) ∷ (s.next, None) ∷ []));
}

-- no condition fails, and this state is reached; or the edit is refused by the first condition that
-- fails, or on allocation failure, and the state stays. How many tests were made is no part of it
pub record Edits {R : Type 0} (old new : State) (result : Result R EditFault)
    (refusal : Option Refusal) (reached : State) : Type 0 where
  pub accepted : OnOk result (refusal ≡ None)
  pub made : OnOk result (IsSameMap reached new)
  pub refused : IfErr result (λ fault. Refuses fault refusal)
  pub unchanged : OnErr result (IsSameMap old new)
