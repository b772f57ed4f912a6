-- The answer of the rows of a table, column by column.
use Rattle.std.specs.Prelude.{◌≡◌, ℕ, ◌+◌, ◌^◌, ◌<◌, ◌≤◌, true, List, [], ◌∷◌, length, map, filter, IsTrue, Contains, All, ℤ, pos, negsuc, neg_ℤ, int_le, ◌≤ℤ◌, ◌<ℤ◌, if◌then◌else◌}
use Rattle.linear_formula.specs.LinearSum.{LinearSum, coefficient, is_ascending_from}
use Rattle.infeasible_cert.specs.Right.{row_at}
use Rattle.shadow_elim.specs.Division.{floor_quotient, ceiling_quotient}
use Rattle.shadow_elim.specs.Elimination.{size_of}
use Rattle.shadow_elim.specs.Points.{Outcome, chosen, refuted, split, too_wide, too_many_rows, least_value, greatest_value, greatest_of, least_of, rest_of, nearest}
use Rattle.shadow_elim.specs.Reduction.{is_contradiction}
use Rattle.lia_solver.specs.declared.columnwise.Chosen.{Chosen}
use Rattle.lia_solver.specs.declared.columnwise.Chosen.TheVariants as found
use Rattle.lia_solver.specs.declared.table.Origin.{Origin}
use Rattle.lia_solver.specs.declared.table.Origin.TheVariants.{Given, Made}
use Rattle.lia_solver.specs.steps.Entries.{Entry, entry_at, sum_at, bounds_above, bounds_below}
use Rattle.lia_solver.specs.steps.Tables.{starts_from, sums_of, live, AreRows, AreSameBelow, IsMadeIn}

-- what rows say of a column at the values so far
abbrev pub upper_of : ℕ → List (ℕ × ℤ) → LinearSum → ℤ
upper_of x values t = floor_quotient (neg_ℤ (rest_of values t)) (size_of x t)

abbrev pub lower_of : ℕ → List (ℕ × ℤ) → LinearSum → ℤ
lower_of x values t = ceiling_quotient (rest_of values t) (size_of x t)

abbrev pub floor_of : ℕ → List (ℕ × ℤ) → LinearSum → ℤ
floor_of x values t = floor_quotient (rest_of values t) (size_of x t)

-- the rows of a table whose first column it is
abbrev pub uppers_in : ℕ → List Entry → List LinearSum
uppers_in x entries = filter (λ t. bounds_above x t.parts) (sums_of entries)

abbrev pub lowers_in : ℕ → List Entry → List LinearSum
lowers_in x entries = filter (λ t. bounds_below x t.parts) (sums_of entries)

abbrev pub high_in : ℕ → List (ℕ × ℤ) → List Entry → ℤ
high_in x values entries = least_of greatest_value (map (upper_of x values) (uppers_in x entries))

abbrev pub low_in : ℕ → List (ℕ × ℤ) → List Entry → ℤ
low_in x values entries = greatest_of least_value (map (lower_of x values) (lowers_in x entries))

abbrev pub floor_in : ℕ → List (ℕ × ℤ) → List Entry → ℤ
floor_in x values entries = greatest_of least_value (map (floor_of x values) (lowers_in x entries))

-- the values with one for the column, or its split
abbrev pub extended_in : ℕ → List Entry → List (ℕ × ℤ) → Outcome
extended_in x entries values =
    if int_le (low_in x values entries) (high_in x values entries)
    then chosen ((x, nearest (low_in x values entries) (high_in x values entries)) ∷ values)
    else split x (floor_in x values entries)

abbrev pub outcome_by : Chosen → Outcome
outcome_by (found.Values values) = chosen values
outcome_by (found.Split column at) = split column at
outcome_by (found.Contradiction place) = refuted
outcome_by found.Wide = too_wide
outcome_by found.Rows = too_many_rows

-- rows that keep the column in its range, or stronger ones, are among the rows
abbrev pub HasRange : List LinearSum → ℕ → Type 0
HasRange rows x =
    ((t : LinearSum) × Contains rows t × (t.parts ≡ (x, pos 1) ∷ [])
    × (negsuc 9223372036854775806 ≤ℤ t.constant)) ×
    ((t : LinearSum) × Contains rows t × (t.parts ≡ (x, negsuc 0) ∷ [])
    × (negsuc 9223372036854775807 ≤ℤ t.constant))

-- columns that can be eliminated from the rows that name no column before `low`
pub record AreReady (low : ℕ) (columns : List ℕ) (entries : List Entry) : Type 0 where
  pub rows : AreRows entries
  pub bound : low ≤ 2 ^ 32
  pub ascending : IsTrue (is_ascending_from low (map (λ x. (x, pos 0)) columns))
  pub named : (x : ℕ) → (Contains columns x → ⊥) →
      All (λ t. coefficient x t ≡ pos 0) (live low entries)
  pub ranges : All (HasRange (live low entries)) columns

-- a given row has its number, and a made one is of two rows of an earlier column
pub record IsMadeEarlier (low : ℕ) (entries : List Entry) (e : Entry) : Type 0 where
  pub column : ℕ
  pub earlier : column < low
  pub beyond : starts_from (column + 1) e.sum.parts ≡ true
  pub made : IsMadeIn column entries e

abbrev pub IsOf : List LinearSum → ℕ → List Entry → Entry → Origin → Type 0
IsOf base low entries e (Given n) = (n < length base) × (row_at base n ≡ e.sum)
IsOf base low entries e (Made m) = IsMadeEarlier low entries e

abbrev pub HaveOrigins : List LinearSum → ℕ → List Entry → Type 0
HaveOrigins base low entries =
    (i : ℕ) → i < length entries → IsOf base low entries (entry_at entries i)
    (entry_at entries i).origin

-- the rows that the values were found by stand, and the earlier ones stand where they stood
pub record AreKept (columns : List ℕ) (old new : List Entry) : Type 0 where
  pub rows : AreRows new
  pub same : (low : ℕ) → AreReady low columns old → AreSameBelow low old new

-- the row of this place is a contradiction, of which each row that it is made of is there
pub record IsRefuted (columns : List ℕ) (old new : List Entry) (place : ℕ) : Type 0 where
  pub rows : AreRows new
  pub inside : place < length new
  pub never : IsTrue (is_contradiction (sum_at new place))
  pub origins : (base : List LinearSum) (low : ℕ) → AreReady low columns old →
      HaveOrigins base low old → HaveOrigins base (2 ^ 32) new

abbrev pub IsChosenIn : List ℕ → List Entry → List Entry → Chosen → Type 0
IsChosenIn columns old new (found.Values values) = AreKept columns old new
IsChosenIn columns old new (found.Split column at) = (at <ℤ greatest_value)
    × Contains columns column
IsChosenIn columns old new (found.Contradiction place) = IsRefuted columns old new place
IsChosenIn columns old new found.Wide = Unit {0}
IsChosenIn columns old new found.Rows = Unit {0}
