-- The flags of devices over std.
use Rattle.std.specs.Prelude.{Bool}
use Rattle.device_io.specs.declared.to_writer.ToWriter.{ToWriter}
use Rattle.device_io.specs.declared.from_reader.FromReader.{FromReader}

-- whether a writer has failed
abbrev pub writer_failed : {W : Type 0} → ToWriter W → Bool
writer_failed sink = sink.failed

-- whether a writer has sent on what it took
abbrev pub writer_flushed : {W : Type 0} → ToWriter W → Bool
writer_flushed sink = sink.flushed

-- whether a reader has failed
abbrev pub reader_failed : {R : Type 0} → FromReader R → Bool
reader_failed source = source.failed
