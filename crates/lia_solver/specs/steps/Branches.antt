-- Branches of a question: its atoms, and then one for each split on the way.
use Rattle.std.specs.Prelude.{◌≡◌, ℕ, ◌≤◌, List, ◌++◌, pos, ◌<ℤ◌, Contains}
use Rattle.linear_formula.specs.LinearSum.{LinearSum, valuation}
use Rattle.linear_formula.specs.Formula.{HoldsAll}
use Rattle.linear_formula.specs.declared.formula.Atom.{Atom}
use Rattle.linear_formula.specs.declared.formula.Cube.{Cube}
use Rattle.infeasible_cert.specs.Refutation.{refutation_of}
use Rattle.infeasible_cert.specs.Right.{rows_of, range_rows, columns_of, AreRightSteps, EndsInContradiction, IsRight, nesting}
use Rattle.shadow_elim.specs.Points.{Outcome, chosen, refuted, split, too_wide, too_many_rows}
use Rattle.shadow_elim.specs.Plan.{Search, nothing}
use Rattle.lia_solver.specs.declared.branch.BranchOutcome.{BranchOutcome}
use Rattle.lia_solver.specs.declared.branch.BranchOutcome.TheVariants as branch
use Rattle.lia_solver.specs.declared.search.Searched.{Searched}
use Rattle.lia_solver.specs.declared.search.Searched.TheVariants as searched
use Rattle.lia_solver.specs.Answers.{IsAnswer, IfPoint}

-- how a branch ended, as an outcome of the plan
abbrev pub planned : BranchOutcome → Outcome
planned (branch.Point at) = chosen at
planned (branch.Refuted rows) = refuted
planned (branch.Split column at) = split column at
planned branch.Wide = too_wide
planned branch.Rows = too_many_rows

-- the rows of a branch in its certificate: of the question, of the ranges of its columns, and of
-- the splits
abbrev pub branch_rows : List Atom → List Atom → List LinearSum
branch_rows question splits = rows_of question ++ range_rows (columns_of (rows_of question))
    ++ rows_of splits

-- a point meets the branch, a contradiction is derived from its rows, and both sides of a split
-- exist
abbrev pub IsRightOutcome : List Atom → List Atom → BranchOutcome → Type 0
IsRightOutcome question splits (branch.Point at) = HoldsAll (valuation at) (question ++ splits)
IsRightOutcome question splits (branch.Refuted rows) =
    AreRightSteps (branch_rows question splits) rows.items × EndsInContradiction rows.items
IsRightOutcome question splits (branch.Split column at) =
    (at <ℤ pos 9223372036854775807) × Contains (columns_of (rows_of question)) column
IsRightOutcome question splits branch.Wide = Unit {0}
IsRightOutcome question splits branch.Rows = Unit {0}

-- the splits on the way to a branch name columns of the question
abbrev pub IsBranch : List Atom → List Atom → Type 0
IsBranch question splits = columns_of (rows_of (question ++ splits)) ≡ columns_of (rows_of question)

-- how the search of a branch ended, with the cubes that were split by then
abbrev pub IsSearched : List Atom → List Atom → ℕ → List Cube → Search → Searched → Type 0
IsSearched question splits depth cubes search (searched.Answer solved) =
    IsAnswer search solved × IfPoint solved (λ at. HoldsAll (valuation at) question)
IsSearched question splits depth cubes search (searched.Nothing certificate) =
    (search ≡ nothing cubes) × (nesting (refutation_of certificate) ≤ depth)
    × IsRight (branch_rows question splits) (refutation_of certificate)
