-- Which faults of a split are found before two segments are tested for a conflict.
use Rattle.std.specs.Prelude.{Bool, true, false}
use Rattle.arc_store.specs.declared.fault.EditFault.{EditFault}
use Rattle.arc_store.specs.declared.fault.EditFault.TheVariants.{Conflict, WrongSide, TooLarge, OutOfMemory}

-- the split fails by a condition that comes before the pairs of segments
abbrev pub comes_before_pairs : EditFault → Bool
comes_before_pairs (Conflict s t) = false
comes_before_pairs WrongSide = false
comes_before_pairs TooLarge = false
comes_before_pairs OutOfMemory = false
comes_before_pairs _ = true
