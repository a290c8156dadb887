-- What a run sees of its devices.
use Rattle.std.specs.Prelude.{ℕ, List, Bool, Option}
use Rattle.device_io.specs.declared.Sink as sink
use Rattle.device_io.specs.declared.Source as source

-- a reader: the bytes still to come, where it tells them, and whether it has failed
pub record Reader : Type 0 where
  pub coming : Option (List ℕ)
  pub failed : Bool

-- a writer: the bytes that it has taken, where it tells them, whether they were sent on, and whether it
-- has failed
pub record Writer : Type 0 where
  pub taken : Option (List ℕ)
  pub flushed : Bool
  pub failed : Bool

-- the reader of the script, the writer of the answers, and that of the saved text
pub record Devices : Type 0 where
  pub script : Reader
  pub answers : Writer
  pub saved : Writer

abbrev pub reader_of : {R : Type 0} → source.Ghosts R → R → Reader
reader_of its r = record { coming = its.coming r; failed = its.has_failed r }

abbrev pub writer_of : {W : Type 0} → sink.Ghosts W → W → Writer
writer_of its w =
    record { taken = its.taken w; flushed = its.is_flushed w; failed = its.has_failed w }

abbrev pub devices : Reader → Writer → Writer → Devices
devices script answers saved = record { script = script; answers = answers; saved = saved }

-- the devices of a run, as they are at some time
abbrev pub devices_of : {R W V : Type 0} → source.Ghosts R → sink.Ghosts W → sink.Ghosts V
    → R → W → V → Devices
devices_of r w v script answers saved =
    devices (reader_of r script) (writer_of w answers) (writer_of v saved)
