-- The elimination of columns from rows (Fourier-Motzkin, with tightening).
use Rattle.std.specs.Prelude.{ℕ, ◌/◌, nat_le, Bool, not, ◌&&◌, ◌==◌, List, [], ◌∷◌, ◌++◌, length, map, filter, find, flat_map, Option, None, option_map, ℤ, pos, int_lt, unsigned_abs, if◌then◌else◌}
use Rattle.std.specs.Option.{option_or}
use Rattle.std.specs.List.{list_all}
use Rattle.linear_formula.specs.LinearSum.{LinearSum, coefficient, is_zero, is_within}
use Rattle.linear_formula.specs.Results.{combination}
use Rattle.linear_formula.specs.declared.formula.Atom.{Atom}
use Rattle.infeasible_cert.specs.Right.{rows_of, range_rows}
use Rattle.shadow_elim.specs.declared.limit.TheConstants.{MAX_ROWS}
use Rattle.shadow_elim.specs.Division.{common_divisor, tightened}
use Rattle.shadow_elim.specs.Reduction.{reduced}

-- rows that bound the column from above, from below, and not at all
abbrev pub is_upper : ℕ → LinearSum → Bool
is_upper x t = int_lt (pos 0) (coefficient x t)

abbrev pub is_lower : ℕ → LinearSum → Bool
is_lower x t = int_lt (coefficient x t) (pos 0)

abbrev pub is_free : ℕ → LinearSum → Bool
is_free x t = is_zero (coefficient x t)

-- how great the coefficient of the column is
abbrev pub size_of : ℕ → LinearSum → ℕ
size_of x t = unsigned_abs (coefficient x t)

-- each upper row with each lower row; the upper rows in their order, and for each of them the lower
-- rows in theirs
abbrev pub pairs : ℕ → List LinearSum → List (LinearSum × LinearSum)
pairs x rows = flat_map (λ u. map (λ l. (u, l)) (filter (is_lower x) rows))
    (filter (is_upper x) rows)

-- the multiples of an upper row with the coefficient a and of a lower row with -b that have no part
-- of the column
abbrev pub upper_multiple : (a b : ℕ) → ℕ
upper_multiple a b = b / common_divisor a b

abbrev pub lower_multiple : (a b : ℕ) → ℕ
lower_multiple a b = a / common_divisor a b

abbrev pub multiples : ℕ → LinearSum × LinearSum → List (ℤ × LinearSum)
multiples x p =
    let a = size_of x p.0 in
    let b = size_of x p.1 in
    (pos (upper_multiple a b), p.0) ∷ (pos (lower_multiple a b), p.1) ∷ []

-- the sum of these multiples, which doesn't name the column
abbrev pub pair_sum : ℕ → LinearSum × LinearSum → LinearSum
pair_sum x p = combination (multiples x p) (pos 0)

abbrev pub pair_sums : ℕ → List LinearSum → List LinearSum
pair_sums x rows = map (pair_sum x) (pairs x rows)

-- what is left of rows, or the limit that was passed
pub data Remainder : Type 0 where
  remains : List LinearSum → Remainder
  wide : Remainder
  too_many : Remainder

abbrev pub counted : List LinearSum → Remainder
counted rows = if nat_le (length rows) MAX_ROWS then remains rows else too_many

-- the rows without the column: those that don't name it, and then the sums of the pairs, tightened.
-- Each sum is measured before it is tightened.
abbrev pub after_column : ℕ → List LinearSum → Remainder
after_column x rows =
    if list_all is_within (pair_sums x rows)
    then counted (reduced (filter (is_free x) rows ++ map tightened (pair_sums x rows)))
    else wide

abbrev pub and_then : (List LinearSum → Remainder) → Remainder → Remainder
and_then next (remains rows) = next rows
and_then next wide = wide
and_then next too_many = too_many

-- one column after the other
abbrev pub elimination : List ℕ → List LinearSum → Remainder
elimination [] rows = remains rows
elimination (x ∷ xs) rows = and_then (elimination xs) (after_column x rows)

-- the rows of a cube, and those of the ranges of the columns that are eliminated
abbrev pub listed_rows : List Atom → List ℕ → List LinearSum
listed_rows atoms columns = rows_of atoms ++ range_rows columns

-- the coefficient of the column is 1 or -1
abbrev pub is_unit : ℕ → LinearSum → Bool
is_unit x t = size_of x t == 1

-- neither coefficient of the column is 1 or -1
abbrev pub is_inexact : ℕ → LinearSum × LinearSum → Bool
is_inexact x p = not (is_unit x p.0) && not (is_unit x p.1)

abbrev pub inexact_after : (List LinearSum → Option (ℕ × (LinearSum × LinearSum))) → Remainder →
    Option (ℕ × (LinearSum × LinearSum))
inexact_after next (remains rows) = next rows
inexact_after next wide = None
inexact_after next too_many = None

-- the first pair with neither coefficient 1 or -1, and its column
abbrev pub first_inexact : List ℕ → List LinearSum → Option (ℕ × (LinearSum × LinearSum))
first_inexact [] rows = None
first_inexact (x ∷ xs) rows =
    option_or (option_map (λ p. (x, p)) (find (is_inexact x) (pairs x rows)))
    (inexact_after (first_inexact xs) (after_column x rows))
