-- The faults of opening.
use Rattle.std.specs.Prelude.{ℕ, ◌+◌, Bool, true, false, List, [], ◌∷◌, Result, Ok, Err}
use Rattle.json_spans.specs.declared.scanning.ScanFault.{ScanFault}
use Rattle.json_spans.specs.declared.scanning.ScanFault.TheVariants as scan
use Rattle.grid_geometry.specs.Common.{Position}
use Rattle.topo_outline.specs.declared.fault.RingAt.{RingAt}
use Rattle.topo_outline.specs.declared.fault.Limit.{Limit}
use Rattle.topo_outline.specs.declared.fault.OpenFault.{OpenFault}
use Rattle.topo_outline.specs.declared.fault.OpenFault.TheVariants as fault

-- what a scan answers
abbrev pub of_scan : ScanFault → OpenFault
of_scan (scan.NotJson place) = fault.NotJson place
of_scan (scan.TooDeep place) = fault.TooDeep place
of_scan scan.OutOfMemory = fault.OutOfMemory

-- what is wrong: a place is in bytes from 0, and a name is the token without its quotes
pub data Fault : Type 0 where
  too_deep : ℕ → Fault
  not_topology : Fault
  bad_member : List ℕ → Fault
  duplicate : List ℕ → Fault
  unsupported : List ℕ → Fault
  not_whole : ℕ → Fault
  out_of_range : ℕ → Fault
  bad_position : ℕ → Fault
  bad_arc_index : ℕ → Fault
  arcs_do_not_meet : RingAt → Fault
  ring_short : RingAt → Fault
  ring_repeats : RingAt → Position → Fault
  too_large : Limit → Fault

-- one after another: the first fault is answered
infixl 10 ◌>>=◌
abbrev pub ◌>>=◌ : {A B : Type 0} → Result A Fault → (A → Result B Fault) → Result B Fault
(Ok x) >>= f = f x
(Err e) >>= f = Err e

-- the first fault in order, or all answers
abbrev pub each : {A B : Type 0} → (A → Result B Fault) → List A → Result (List B) Fault
each f [] = Ok []
each f (a ∷ as') = do
  b ← f a
  bs ← each f as'
  Ok (b ∷ bs)

-- the same, each with its number
abbrev pub each_at : {A B : Type 0} → (ℕ → A → Result B Fault) → ℕ → List A →
    Result (List B) Fault
each_at f i [] = Ok []
each_at f i (a ∷ as') = do
  b ← f i a
  bs ← each_at f (i + 1) as'
  Ok (b ∷ bs)

-- r, where the test holds
abbrev pub demand : {A : Type 0} → Bool → Fault → Result A Fault → Result A Fault
demand true f r = r
demand false f r = Err f
