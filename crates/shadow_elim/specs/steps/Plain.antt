-- Rows of one column each.
use Rattle.std.specs.Prelude.{◌≡◌, ◌⊎◌, ℕ, ℤ, [], ◌∷◌}
use Rattle.linear_formula.specs.LinearSum.{LinearSum}
use Rattle.shadow_elim.specs.steps.Marks.{IsSmall}

-- at most one column, and numbers so small that no sum of two such rows is beyond the limits
abbrev pub IsPlain : LinearSum → Type 0
IsPlain t = (t.parts ≡ []) ⊎ ((x : ℕ) × (a : ℤ) × (t.parts ≡ (x, a) ∷ []) × IsSmall x t)
