-- How a list of queries grows.
use Rattle.std.specs.Prelude.{◌≡◌, ℕ, List, ◌++◌, Some, slice_get}

-- these stand after the old ones, each as it is to be
pub record IsGrown (P : ℕ → Type 0) (old new : List ℕ) : Type 0 where
  pub more : List ℕ
  pub is : new ≡ old ++ more
  pub each : (n x : ℕ) → slice_get more n ≡ Some x → P x
