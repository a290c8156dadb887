-- The status that an export ends the program with.
use Rattle.std.specs.Prelude.{ℕ, Result, Ok, Err}
use Rattle.topo_outline.specs.declared.fault.OpenFault.TheVariants.{OutOfMemory}
use Rattle.geo_features.specs.declared.fault.ExportFault.{ExportFault}
use Rattle.geo_features.specs.declared.fault.ExportFault.TheVariants.{Open, Device}

-- 0 where the layer was written, 3 where an allocation failed, which is the only fault of a list of bytes too, and 2 where
-- the map can't be read, or the layer not be written as it is asked for
abbrev pub export_status : {T : Type 0} → Result T ExportFault → ℕ
export_status (Ok written) = 0
export_status (Err (Open OutOfMemory)) = 3
export_status (Err Device) = 3
export_status (Err fault) = 2
