-- Boards at which nothing happened yet.
use Rattle.std.specs.Prelude.{◌≡◌, ℕ, []}
use Rattle.bolt_core.specs.Boards.{Shown}

-- and their assertions
pub record IsOpened (b : Shown) (asserts : ℕ) : Type 0 where
  pub all : asserts ≡ b.asserts
  pub history : b.core.history ≡ []
