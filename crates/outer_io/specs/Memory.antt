-- Sources and sinks in memory.
use Rattle.std.specs.Prelude.{ℕ, List}

-- a source: the bytes that are left, the numbers of the calls that fail, how many calls there were,
-- how much a call gives at most, and how many failed
pub record MemoryBytes : Type 0 where
  pub left : List ℕ
  pub failing : List ℕ
  pub calls : ℕ
  pub piece : ℕ
  pub faults : ℕ

-- a sink: the bytes that it took, the most that it takes in all, and the rest as in a source
pub record MemoryRoom : Type 0 where
  pub taken : List ℕ
  pub room : ℕ
  pub failing : List ℕ
  pub calls : ℕ
  pub piece : ℕ
  pub faults : ℕ
