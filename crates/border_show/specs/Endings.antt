-- The line on standard error that says why there is no picture.
use Rattle.std.specs.Prelude.{◌≡◌}
use Rattle.topo_outline.specs.declared.fault.OpenFault.TheVariants.{OutOfMemory}
use Rattle.program_ends.specs.Common.{IsOpen}
use Rattle.program_ends.specs.declared.diagnostic.Diagnostic.{Diagnostic}
use Rattle.program_ends.specs.declared.diagnostic.Diagnostic.TheVariants.{NoFeature, NoMemory}
use Rattle.border_show.specs.declared.showing.ShowFault.{ShowFault}
use Rattle.border_show.specs.declared.showing.ShowFault.TheVariants.{Open, Feature}

-- the line says that no feature is the one that was asked for
abbrev pub IsFeatureLine : Diagnostic → Type 0
IsFeatureLine (NoFeature reason) = Unit {0}
IsFeatureLine line = ⊥

-- the line says why there is no picture
abbrev pub IsFaultLine : ShowFault → Diagnostic → Type 0
IsFaultLine (Feature why) line = IsFeatureLine line
IsFaultLine (Open OutOfMemory) line = line ≡ NoMemory
IsFaultLine (Open fault) line = IsOpen fault line
