-- Rows with numbers from one on.
use Rattle.std.specs.Prelude.{ℕ, ◌+◌, List, [], ◌∷◌}
use Rattle.linear_formula.specs.LinearSum.{LinearSum}
use Rattle.shadow_elim.specs.declared.row.Row.{Row}

abbrev pub numbered_from : ℕ → List LinearSum → List Row
numbered_from next [] = []
numbered_from next (t ∷ ts) = record { term = t; number = next } ∷ numbered_from (next + 1) ts
