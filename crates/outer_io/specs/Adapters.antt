-- The reader and the writer behind an adapter, and its count of faults.
use Rattle.std.specs.Prelude.{ℕ}
use Rattle.outer_io.specs.declared.reader.FromReader.{FromReader}
use Rattle.outer_io.specs.declared.writer.ToWriter.{ToWriter}

abbrev pub reader_of : {R : Type 0} → FromReader R → R
reader_of s = s.inner

abbrev pub reader_faults : {R : Type 0} → FromReader R → ℕ
reader_faults s = s.faults

abbrev pub writer_of : {W : Type 0} → ToWriter W → W
writer_of s = s.inner

abbrev pub writer_faults : {W : Type 0} → ToWriter W → ℕ
writer_faults s = s.faults
