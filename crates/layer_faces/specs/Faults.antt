-- Why there are no faces.
use Rattle.layer_sides.specs.declared.fault.SideFault.{SideFault}
use Rattle.layer_sides.specs.declared.fault.SideFault.TheVariants as sides
use Rattle.layer_faces.specs.declared.fault.FaceFault.{FaceFault}
use Rattle.layer_faces.specs.declared.fault.FaceFault.TheVariants.{OutOfMemory, TooLarge, Unswept}

-- where there are no sides, there are no faces
abbrev pub without_sides : SideFault → FaceFault
without_sides sides.OutOfMemory = OutOfMemory
without_sides sides.TooLarge = TooLarge
without_sides (sides.Unswept at) = Unswept at
