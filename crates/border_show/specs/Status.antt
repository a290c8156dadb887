-- The status that a drawing ends the program with.
use Rattle.std.specs.Prelude.{ℕ, Result, Ok, Err}
use Rattle.topo_outline.specs.declared.fault.OpenFault.TheVariants.{OutOfMemory}
use Rattle.border_show.specs.declared.showing.ShowFault.{ShowFault}
use Rattle.border_show.specs.declared.showing.ShowFault.TheVariants.{Open, Feature}

-- 0 where all was drawn, 1 where no feature is the one that was asked for, 3 where an allocation failed, and
-- 2 where a map can't be read
abbrev pub drawing_status : {T : Type 0} → Result T ShowFault → ℕ
drawing_status (Ok done) = 0
drawing_status (Err (Feature why)) = 1
drawing_status (Err (Open OutOfMemory)) = 3
drawing_status (Err (Open fault)) = 2
