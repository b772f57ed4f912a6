-- When a kept limit is right.
use Rattle.std.specs.Prelude.{◌≡◌, ℕ, IsTrue, List, Some}
use Rattle.linear_formula.specs.LinearSum.{LinearSum, is_within}
use Rattle.linear_formula.specs.Results.{combination}
use Rattle.linear_formula.specs.declared.question.Question.{Question}
use Rattle.linear_formula.specs.declared.question.Question.TheVariants as question
use Rattle.linear_formula.specs.declared.formula.Cube.{Cube}
use Rattle.shadow_elim.specs.declared.limit.Limit.{Limit}
use Rattle.shadow_elim.specs.declared.limit.Limit.TheVariants.{Columns, Wide, Rows, Branches, Inexact}
use Rattle.shadow_elim.specs.declared.limit.Kept.{Kept}
use Rattle.shadow_elim.specs.Elimination.{elimination, first_inexact, listed_rows, remains, wide, too_many}
use Rattle.shadow_elim.specs.Plan.{solution, limit_met}

-- The elimination of columns from a cube meets the limit. A pair is met only where the elimination
-- ends: one that comes after a row beyond the limits was never combined.
abbrev pub IsMetBy : Cube → List ℕ → Limit → Type 0
IsMetBy cube columns Columns = ⊥
IsMetBy cube columns (Wide branch) =
    (branch ≡ question.Eliminate cube columns)
    × (elimination columns (listed_rows cube.atoms columns) ≡ wide)
IsMetBy cube columns (Rows branch) =
    (branch ≡ cube) × (elimination columns (listed_rows cube.atoms columns) ≡ too_many)
IsMetBy cube columns (Branches branches) = ⊥
IsMetBy cube columns (Inexact pair) =
    (rows : List LinearSum) × (elimination columns (listed_rows cube.atoms columns) ≡ remains rows)
    ×
    (first_inexact columns (listed_rows cube.atoms columns)
    ≡ Some (pair.column, (pair.upper.term, pair.lower.term)))

-- the plan meets the limit on the question
abbrev pub MeetsLimit : Question → Limit → Type 0
MeetsLimit (question.Cube cube) limit = solution cube.atoms ≡ limit_met limit
MeetsLimit (question.Combine summands constant) limit =
    (limit ≡ Wide (question.Combine summands constant))
    × (¬ IsTrue (is_within (combination summands constant)))
MeetsLimit (question.Eliminate cube columns) limit = IsMetBy cube columns limit

abbrev pub IsRight : Kept → Type 0
IsRight kept = MeetsLimit kept.question kept.limit
