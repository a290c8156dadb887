-- Whose fault it is that a text was not written.
use Rattle.std.specs.Prelude.{Bool, true, false}
use Rattle.topo_writer.specs.declared.fault.WriteFault.{WriteFault}
use Rattle.topo_writer.specs.declared.fault.WriteFault.TheVariants.{Device, OutOfMemory}

-- whether it is the device's
abbrev pub of_device : WriteFault → Bool
of_device Device = true
of_device OutOfMemory = false
