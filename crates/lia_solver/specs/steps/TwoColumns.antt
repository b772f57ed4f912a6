-- Sums of rows of the same two columns, which are rows of one column.
use Rattle.std.specs.Prelude.{◌≡◌, ℕ, ◌^◌, ◌≤◌, ◌==◌, Bool, false, List, [], ◌∷◌, ℤ, pos, negsuc, neg_ℤ, ◌+ℤ◌, ◌*ℤ◌, ◌≤ℤ◌, ◌<ℤ◌, unsigned_abs}
use Rattle.linear_formula.specs.LinearSum.{LinearSum}
use Rattle.lia_solver.specs.declared.two_columns.Sides.{Sides}
use Rattle.lia_solver.specs.steps.Entries.{Entry}
use Rattle.lia_solver.specs.steps.Tables.{IsHeld}

-- the row of one column
abbrev pub single : ℕ → ℤ → ℤ → LinearSum
single y a c = record { parts = (y, a) ∷ []; constant = c }

-- the row names this column and one before it
abbrev pub names_two : ℕ → List (ℕ × ℤ) → Bool
names_two y [] = false
names_two y (p ∷ []) = false
names_two y (p ∷ q ∷ []) = q.0 == y
names_two y (p ∷ q ∷ r ∷ ps) = false

-- rows that are as strong stand in the table
pub record AreSides (s : Sides) (entries : List Entry) : Type 0 where
  pub above : IsHeld (single s.column (pos 1) (neg_ℤ s.greatest)) entries
  pub below : IsHeld (single s.column (negsuc 0) s.least) entries
  pub greatest_limit : unsigned_abs s.greatest ≤ 2 ^ 84
  pub least_limit : unsigned_abs s.least ≤ 2 ^ 84

-- the row of their column with this coefficient and this constant is no stronger than they are
pub record IsOutdone (s : Sides) (coefficient constant : ℤ) : Type 0 where
  pub above : pos 0 <ℤ coefficient → ((coefficient *ℤ s.greatest) +ℤ constant) ≤ℤ pos 0
  pub below : coefficient <ℤ pos 0 → ((coefficient *ℤ s.least) +ℤ constant) ≤ℤ pos 0
  pub none : coefficient ≡ pos 0 → constant ≤ℤ pos 0
