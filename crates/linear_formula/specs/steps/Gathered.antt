-- Parts, and the number of additions that gathered them.
use Rattle.std.specs.Prelude.{ℕ, List, ℤ}

pub record Gathered : Type 0 where
  pub parts : List (ℕ × ℤ)
  pub adds : ℕ
