-- The plan by which a cube is solved.
use Rattle.std.specs.Prelude.{ℕ, zero, suc, nat_lt, nat_le, List, [], ◌∷◌, ◌++◌, length, ℤ, pos, ◌+ℤ◌, if◌then◌else◌}
use Rattle.linear_formula.specs.LinearSum.{LinearSum}
use Rattle.linear_formula.specs.declared.formula.Atom.{Atom}
use Rattle.linear_formula.specs.declared.formula.Cube.{Cube}
use Rattle.linear_formula.specs.declared.question.Question.TheVariants as question
use Rattle.infeasible_cert.specs.Right.{columns_of, rows_of, base_rows, at_most, at_least}
use Rattle.shadow_elim.specs.declared.limit.TheConstants.{MAX_COLUMNS, MAX_SPLITS}
use Rattle.shadow_elim.specs.declared.limit.Limit.{Limit}
use Rattle.shadow_elim.specs.declared.limit.Limit.TheVariants.{Columns, Wide, Rows, Branches}
use Rattle.shadow_elim.specs.Points.{Outcome, chosen, refuted, split, too_wide, too_many_rows, outcome}

-- the outcome of a branch whose rows are those of its cube and of the ranges of its columns
abbrev pub outcome_of : List Atom → Outcome
outcome_of atoms = outcome (columns_of (rows_of atoms)) (base_rows atoms)

abbrev pub cube_of : List Atom → Cube
cube_of atoms = record { atoms = atoms }

-- the branch with one more row
abbrev pub with_row : List Atom → LinearSum → List Atom
with_row atoms t = atoms ++ record { term = t } ∷ []

-- where the search of a branch stands: a point, nothing in it and the cubes split so far in order,
-- or a limit
pub data Search : Type 0 where
  found : List (ℕ × ℤ) → Search
  nothing : (splits : List Cube) → Search
  limit_met : Limit → Search

abbrev pub search_on : (List Cube → Search) → Search → Search
search_on next (found values) = found values
search_on next (nothing splits) = next splits
search_on next (limit_met limit) = limit_met limit

-- what is met without a split
abbrev pub settled : (splits : List Cube) → List Atom → (ℕ → ℤ → Search) → Outcome → Search
settled splits atoms divide (chosen values) = found values
settled splits atoms divide refuted = nothing splits
settled splits atoms divide (split x k) = divide x k
settled splits atoms divide too_wide = limit_met (Wide (question.Cube (cube_of atoms)))
settled splits atoms divide too_many_rows = limit_met (Rows (cube_of atoms))

-- The search of a branch after the splits so far, the side at most k of a split first, and then the
-- side at least k + 1. The depth only bounds the recursion: that many splits on one way are too
-- many.
abbrev pub search : (depth : ℕ) → (splits : List Cube) → List Atom → Search
search zero splits atoms = settled splits atoms (λ x k. limit_met (Branches splits))
    (outcome_of atoms)
search (suc depth) splits atoms =
    settled splits atoms
    (λ x k. if nat_le MAX_SPLITS (length splits)
    then limit_met (Branches splits)
    else search_on (λ more. search depth more (with_row atoms (at_least x (k +ℤ pos 1))))
    (search depth (splits ++ cube_of atoms ∷ []) (with_row atoms (at_most x k))))
    (outcome_of atoms)

-- the answer for a cube
abbrev pub solution : List Atom → Search
solution atoms =
    if nat_lt MAX_COLUMNS (length (columns_of (rows_of atoms))) then limit_met Columns else search
    MAX_SPLITS [] atoms
