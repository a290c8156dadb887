-- The line on standard error that tells why there is no text.
use Rattle.std.specs.Prelude.{◌≡◌, Option, Some, None, IsSomeAnd}
use Rattle.topo_outline.specs.declared.fault.OpenFault.TheVariants.{OutOfMemory}
use Rattle.program_ends.specs.Common.{IsOpen}
use Rattle.program_ends.specs.declared.diagnostic.Diagnostic.{Diagnostic}
use Rattle.program_ends.specs.declared.diagnostic.Diagnostic.TheVariants.{NoMemory}
use Rattle.geo_features.specs.declared.fault.ExportFault.{ExportFault}
use Rattle.geo_features.specs.declared.fault.ExportFault.TheVariants.{Open, Device}

-- the line tells of the memory or of the map's fault; of the layer no program but this one has a line
abbrev pub TellsFault : ExportFault → Option Diagnostic → Type 0
TellsFault (Open OutOfMemory) line = line ≡ Some NoMemory
TellsFault (Open fault) line = IsSomeAnd line (IsOpen fault)
TellsFault Device line = line ≡ Some NoMemory
TellsFault fault line = line ≡ None
