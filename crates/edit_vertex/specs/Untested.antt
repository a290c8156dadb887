-- Which faults are found before two segments are tested for a conflict.
use Rattle.std.specs.Prelude.{Bool, true, false}
use Rattle.arc_store.specs.declared.fault.EditFault.{EditFault}
use Rattle.arc_store.specs.declared.fault.EditFault.TheVariants.{Conflict, Sweeps, OutOfMemory}

-- the edit fails by a condition that no pair of segments decides
abbrev pub needs_no_pairs : EditFault → Bool
needs_no_pairs (Conflict s t) = false
needs_no_pairs Sweeps = false
needs_no_pairs OutOfMemory = false
needs_no_pairs _ = true
