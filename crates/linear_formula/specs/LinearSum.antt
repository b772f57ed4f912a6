-- Sums of multiples of columns and a constant, their values, and the limits that a term keeps.
use Rattle.std.specs.Prelude.{ℕ, zero, suc, ◌+◌, ◌^◌, nat_lt, nat_le, ◌==◌, Bool, true, false, not, ◌&&◌, IsTrue, List, [], ◌∷◌, length, ℤ, pos, negsuc, ◌+ℤ◌, ◌*ℤ◌, unsigned_abs, if◌then◌else◌}

-- each part is a column and its coefficient
pub record LinearSum : Type 0 where
  pub parts : List (ℕ × ℤ)
  pub constant : ℤ

-- a value for each column
abbrev pub Valuation : Type 0
Valuation = ℕ → ℤ

abbrev pub value_of_parts : Valuation → List (ℕ × ℤ) → ℤ
value_of_parts v [] = pos 0
value_of_parts v (p ∷ ps) = (p.1 *ℤ v p.0) +ℤ value_of_parts v ps

abbrev pub value_of : Valuation → LinearSum → ℤ
value_of v t = value_of_parts v t.parts +ℤ t.constant

-- the number listed for a column, 0 for the others
abbrev pub listed_at : ℕ → List (ℕ × ℤ) → ℤ
listed_at x [] = pos 0
listed_at x (p ∷ ps) = if x == p.0 then p.1 else listed_at x ps

abbrev pub valuation : List (ℕ × ℤ) → Valuation
valuation values x = listed_at x values

abbrev pub coefficient : ℕ → LinearSum → ℤ
coefficient x t = listed_at x t.parts

-- a value of 64 bits
abbrev pub is64 : ℤ → Bool
is64 (pos n) = nat_lt n (2 ^ 63)
is64 (negsuc n) = nat_lt n (2 ^ 63)

-- each column stands for a value of 64 bits
abbrev pub Is64 : Valuation → Type 0
Is64 v = (x : ℕ) → IsTrue (is64 (v x))

abbrev pub is_zero : ℤ → Bool
is_zero (pos zero) = true
is_zero (pos (suc n)) = false
is_zero (negsuc n) = false

-- the columns ascend from `low` on
abbrev pub is_ascending_from : ℕ → List (ℕ × ℤ) → Bool
is_ascending_from low [] = true
is_ascending_from low (p ∷ ps) = nat_le low p.0 && is_ascending_from (p.0 + 1) ps

abbrev pub is_ascending : List (ℕ × ℤ) → Bool
is_ascending ps = is_ascending_from 0 ps

-- no coefficient is 0
abbrev pub has_no_zero : List (ℕ × ℤ) → Bool
has_no_zero [] = true
has_no_zero (p ∷ ps) = not (is_zero p.1) && has_no_zero ps

-- each column is a number of 32 bits
abbrev pub has_columns : List (ℕ × ℤ) → Bool
has_columns [] = true
has_columns (p ∷ ps) = nat_lt p.0 (2 ^ 32) && has_columns ps

abbrev pub max_parts : ℕ
max_parts = 1024

abbrev pub max_coefficient : ℕ
max_coefficient = 2 ^ 40

abbrev pub max_constant : ℕ
max_constant = 2 ^ 84

abbrev pub are_coefficients_within : List (ℕ × ℤ) → Bool
are_coefficients_within [] = true
are_coefficients_within (p ∷ ps) = nat_le (unsigned_abs p.1) max_coefficient &&
    are_coefficients_within ps

-- the three limits
abbrev pub is_within : LinearSum → Bool
is_within t =
    nat_le (length t.parts) max_parts && are_coefficients_within t.parts && nat_le
    (unsigned_abs t.constant) max_constant

-- columns in order, no coefficient 0, and the limits
abbrev pub is_term : LinearSum → Bool
is_term t = is_ascending t.parts && has_no_zero t.parts && has_columns t.parts && is_within t
