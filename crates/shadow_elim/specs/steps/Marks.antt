-- Rows that need no pairs.
use Rattle.std.specs.Prelude.{◌≡◌, ℕ, ◌<◌, ◌≤◌, ◌^◌, Bool, true, false, List, length, take, slice_index_or, unsigned_abs}
use Rattle.std.specs.List.{list_any}
use Rattle.linear_formula.specs.LinearSum.{LinearSum}
use Rattle.shadow_elim.specs.declared.row.Row.{Row}
use Rattle.shadow_elim.specs.Elimination.{size_of}
use Rattle.shadow_elim.specs.Reduction.{is_as_strong}

-- the sum of this row and of another such one has a constant within the limits
pub record IsSmall (x : ℕ) (t : LinearSum) : Type 0 where
  pub size : size_of x t ≤ 2 ^ 19
  pub constant : unsigned_abs t.constant ≤ 2 ^ 64

-- a row is marked only where an earlier one is as strong, and this holds too
pub record AreMarked (holds : Type 0) (rows : List Row) (marks : List Bool) : Type 0 where
  pub count : length marks ≡ length rows
  pub needless : (i : ℕ) (r : Row) → i < length rows → slice_index_or marks i false ≡ true →
      holds × (list_any (λ s. is_as_strong (slice_index_or rows i r).term s.term) (take i rows)
      ≡ true)
