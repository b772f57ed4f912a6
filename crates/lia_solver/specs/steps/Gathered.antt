-- The rows of a branch in a table.
use Rattle.std.specs.Prelude.{◌≡◌, ◌⊎◌, ℕ, ◌<◌, true, ◌+◌, ◌*◌, List, [], ◌∷◌, ◌++◌, length, IsTrue, Contains, ◌≤ℤ◌}
use Rattle.linear_formula.specs.LinearSum.{LinearSum, is_within}
use Rattle.linear_formula.specs.declared.formula.Atom.{Atom}
use Rattle.infeasible_cert.specs.Right.{rows_of, range_rows}
use Rattle.shadow_elim.specs.Elimination.{pair_sum}
use Rattle.shadow_elim.specs.Reduction.{is_trivial}
use Rattle.shadow_elim.specs.Stages.{terms_of}
use Rattle.shadow_elim.specs.declared.row.Row.{Row}
use Rattle.lia_solver.specs.declared.table.Origin.TheVariants.{Given}
use Rattle.lia_solver.specs.steps.Entries.{Entry, entry_at, sum_at, least_at, ArePaired}
use Rattle.lia_solver.specs.steps.Numbers.{numbered_from}
use Rattle.lia_solver.specs.steps.Tables.{AreRows}

-- the row always holds, or its constant lies from the least to the greatest one of its coefficients
abbrev pub IsSpanned : LinearSum → List Entry → Type 0
IsSpanned t entries = (is_trivial t ≡ true)
    ⊎ ((i : ℕ) × (i < length entries) × ((sum_at entries i).parts ≡ t.parts)
    × ((entry_at entries i).least ≤ℤ t.constant)
    × (t.constant ≤ℤ (sum_at entries i).constant))

-- the entry's row is one of these, and follows by its number
pub record IsGivenIn (rows : List Row) (e : Entry) : Type 0 where
  pub number : ℕ
  pub origin : e.origin ≡ Given number
  pub here : Contains rows (record { term = e.sum; number = number })

-- of the rows with the same coefficients the greatest constant and the least one are in the table
pub record AreGathered (rows : List Row) (entries : List Entry) : Type 0 where
  pub table : AreRows entries
  pub spanned : (r : Row) → Contains rows r → IsSpanned r.term entries
  pub given : (i : ℕ) → i < length entries → IsGivenIn rows (entry_at entries i)
  pub least : (i : ℕ) → i < length entries → Contains (terms_of rows) (least_at entries i)

-- what becomes of a table when these are put after its rows
abbrev pub ArePut : List Row → List Entry → List Entry → Type 0
ArePut added old new = (rows : List Row) → AreGathered rows old → AreGathered (rows ++ added) new

-- the rows of a branch, with the numbers that they have in its certificate
abbrev pub numbered_rows : List Atom → List Atom → List ℕ → List Row
numbered_rows question splits columns =
    numbered_from 0 (rows_of question)
    ++ (numbered_from (length question + 2 * length columns) (rows_of splits)
    ++ numbered_from (length question) (range_rows columns))

-- Sums with the least constants

-- where the sum of two rows of the column is within the limits, so is that of their least constants
abbrev pub AreNarrowWith : ℕ → List Entry → (upper : ℕ) → Type 0
AreNarrowWith x entries upper = (lower : ℕ) → ArePaired x entries upper lower →
    IsTrue (is_within (pair_sum x (sum_at entries upper, sum_at entries lower))) →
    IsTrue (is_within (pair_sum x (least_at entries upper, least_at entries lower)))

abbrev pub AreNarrowBelow : ℕ → List Entry → Type 0
AreNarrowBelow x entries = (upper : ℕ) → AreNarrowWith x entries upper

pub record HasWideBelow (x : ℕ) (entries : List Entry) : Type 0 where
  pub upper : ℕ
  pub lower : ℕ
  pub paired : ArePaired x entries upper lower
  pub wide : ¬ IsTrue (is_within (pair_sum x (least_at entries upper, least_at entries lower)))

-- the same of the first column: after it only the greatest constants are left
abbrev pub IsNarrowFirst : List ℕ → List Entry → Type 0
IsNarrowFirst [] entries = Unit {0}
IsNarrowFirst (x ∷ xs) entries = AreNarrowBelow x entries

abbrev pub IsWideFirst : List ℕ → List Entry → Type 0
IsWideFirst [] entries = ⊥
IsWideFirst (x ∷ xs) entries = HasWideBelow x entries
