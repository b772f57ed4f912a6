-- Which certificates are right.
use Rattle.std.specs.Prelude.{◌≡◌, ℕ, ◌+◌, ◌-◌, ◌^◌, ◌<◌, ◌≤◌, max, nat_lt, ◌==◌, List, [], ◌∷◌, ◌++◌, length, map, slice_index_or, ℤ, pos, negsuc, ◌+ℤ◌, ◌*ℤ◌, neg_ℤ, ◌≤ℤ◌, ◌<ℤ◌, if◌then◌else◌}
use Rattle.linear_formula.specs.LinearSum.{LinearSum, coefficient}
use Rattle.linear_formula.specs.Results.{combination, constant_sum}
use Rattle.linear_formula.specs.declared.formula.Atom.{Atom}
use Rattle.infeasible_cert.specs.declared.certificate.Derived.{Derived}
use Rattle.infeasible_cert.specs.Refutation.{Refutation, close, branch}

-- rows that the range of a column gives: x - (2^63 - 1) ≤ 0 and -2^63 - x ≤ 0
abbrev pub upper_range : ℕ → LinearSum
upper_range x = record { parts = (x, pos 1) ∷ []; constant = negsuc 9223372036854775806 }

abbrev pub lower_range : ℕ → LinearSum
lower_range x = record { parts = (x, negsuc 0) ∷ []; constant = negsuc 9223372036854775807 }

abbrev pub range_rows : List ℕ → List LinearSum
range_rows [] = []
range_rows (x ∷ xs) = upper_range x ∷ lower_range x ∷ range_rows xs

-- a column put into ascending columns, once
abbrev pub with_column : ℕ → List ℕ → List ℕ
with_column x [] = x ∷ []
with_column x (y ∷ ys) = if nat_lt x y then (x ∷ y ∷ ys) else
    (if x == y then (y ∷ ys) else (y ∷ with_column x ys))

abbrev pub with_columns : List (ℕ × ℤ) → List ℕ → List ℕ
with_columns [] xs = xs
with_columns (p ∷ ps) xs = with_column p.0 (with_columns ps xs)

-- the columns that rows name, ascending
abbrev pub columns_of : List LinearSum → List ℕ
columns_of [] = []
columns_of (t ∷ ts) = with_columns t.parts (columns_of ts)

abbrev pub rows_of : List Atom → List LinearSum
rows_of atoms = map (λ atom. atom.term) atoms

-- the rows of a cube, and those of the ranges of its columns
abbrev pub base_rows : List Atom → List LinearSum
base_rows atoms = rows_of atoms ++ range_rows (columns_of (rows_of atoms))

-- x - k ≤ 0
abbrev pub at_most : ℕ → ℤ → LinearSum
at_most x k = record { parts = (x, pos 1) ∷ []; constant = neg_ℤ k }

-- k - x ≤ 0
abbrev pub at_least : ℕ → ℤ → LinearSum
at_least x k = record { parts = (x, negsuc 0) ∷ []; constant = k }

-- the row of a number
abbrev pub row_at : List LinearSum → ℕ → LinearSum
row_at rows n = slice_index_or rows n (constant_sum (pos 0))

-- the rows that parts name, with their multipliers
abbrev pub summands : List LinearSum → List (ℕ × ℤ) → List (ℤ × LinearSum)
summands rows parts = map (λ p. (p.1, row_at rows p.0)) parts

-- each part names an earlier row, and no multiplier is below 0
abbrev pub AreMultiples : List LinearSum → List (ℕ × ℤ) → Type 0
AreMultiples rows [] = Unit {0}
AreMultiples rows (p ∷ ps) = (p.0 < length rows) × (pos 0 ≤ℤ p.1) × AreMultiples rows ps

-- a number of 128 bits
abbrev pub Is128 : ℤ → Type 0
Is128 z = (negsuc (2 ^ 127 - 1) ≤ℤ z) × (z ≤ℤ pos (2 ^ 127 - 1))

-- each number, and each sum so far, has 128 bits
abbrev pub FitsAlong : ℤ → List ℤ → Type 0
FitsAlong sum [] = Unit {0}
FitsAlong sum (z ∷ zs) = Is128 z × Is128 (sum +ℤ z) × FitsAlong (sum +ℤ z) zs

-- the products for a column, and for the constant, in the order of the parts
abbrev pub column_products : ℕ → List (ℤ × LinearSum) → List ℤ
column_products x = map (λ s. s.0 *ℤ coefficient x s.1)

abbrev pub constant_products : List (ℤ × LinearSum) → List ℤ
constant_products = map (λ s. s.0 *ℤ s.1.constant)

-- the least number that is not below c / d
abbrev pub IsRoundedUp : (c d k : ℤ) → Type 0
IsRoundedUp c d k = (c ≤ℤ (d *ℤ k)) × ((d *ℤ k) <ℤ (c +ℤ d))

-- The row is the sum of the multiples, divided: `divide` divides each coefficient, and the constant
-- is rounded up.
pub record IsRightStep (rows : List LinearSum) (d : Derived) : Type 0 where
  pub named : AreMultiples rows d.parts
  pub columns_fit : (x : ℕ) → FitsAlong (pos 0) (column_products x (summands rows d.parts))
  pub constant_fits : FitsAlong (pos 0) (constant_products (summands rows d.parts))
  pub divisor : pos 1 ≤ℤ d.divide
  pub divided : (x : ℕ) → coefficient x (combination (summands rows d.parts) (pos 0))
      ≡ d.divide *ℤ coefficient x d.row.term
  pub rounded : IsRoundedUp (combination (summands rows d.parts) (pos 0)).constant d.divide
      d.row.term.constant

-- the rows after derived rows
abbrev pub rows_after : List LinearSum → List Derived → List LinearSum
rows_after rows [] = rows
rows_after rows (d ∷ ds) = rows_after (rows ++ d.row.term ∷ []) ds

-- each derived row follows from those before it
abbrev pub AreRightSteps : List LinearSum → List Derived → Type 0
AreRightSteps rows [] = Unit {0}
AreRightSteps rows (d ∷ ds) = IsRightStep rows d × AreRightSteps (rows ++ d.row.term ∷ []) ds

-- the last derived row has no column and a constant of at least 1; there is one
abbrev pub EndsInContradiction : List Derived → Type 0
EndsInContradiction [] = ⊥
EndsInContradiction (d ∷ []) = (d.row.term.parts ≡ []) × (pos 1 ≤ℤ d.row.term.constant)
EndsInContradiction (d ∷ e ∷ ds) = EndsInContradiction (e ∷ ds)

-- right from these rows on
abbrev pub IsRight : List LinearSum → Refutation → Type 0
IsRight rows (close ds) = AreRightSteps rows ds × EndsInContradiction ds
IsRight rows (branch ds x at low high) =
    AreRightSteps rows ds × (at <ℤ pos 9223372036854775807)
    × IsRight (rows_after rows ds ++ at_most x at ∷ []) low
    × IsRight (rows_after rows ds ++ at_least x (at +ℤ pos 1) ∷ []) high

-- how deep branches nest
abbrev pub nesting : Refutation → ℕ
nesting (close ds) = 0
nesting (branch ds x at low high) = 1 + max (nesting low) (nesting high)

-- how deep branches may nest
abbrev pub max_nesting : ℕ
max_nesting = 512

-- the certificate is right for the cube
pub record Refutes (atoms : List Atom) (c : Refutation) : Type 0 where
  pub shallow : nesting c ≤ max_nesting
  pub right : IsRight (base_rows atoms) c
