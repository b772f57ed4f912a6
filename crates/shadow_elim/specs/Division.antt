-- Divisors and rounded quotients, and the tightening of a row.
use Rattle.std.specs.Prelude.{ℕ, zero, suc, ◌%◌, nat_lt, ◌==◌, ◌&&◌, List, [], ◌∷◌, ℤ, pos, neg_ℤ, unsigned_abs, if◌then◌else◌}
use Rattle.std.specs.Int.{int_div_euclid}
use Rattle.linear_formula.specs.LinearSum.{LinearSum}

-- the greatest number that divides both, up to a bound
abbrev pub common_divisor_up_to : (bound a b : ℕ) → ℕ
common_divisor_up_to zero a b = 0
common_divisor_up_to (suc n) a b =
    if (a % suc n == 0) && (b % suc n == 0) then suc n else common_divisor_up_to n a b

-- the greatest number that divides both, and the other one where one is 0
abbrev pub common_divisor : ℕ → ℕ → ℕ
common_divisor zero b = b
common_divisor (suc a) b = common_divisor_up_to (suc a) (suc a) b

-- the greatest common divisor of the coefficients, 0 where there are none
abbrev pub parts_divisor : List (ℕ × ℤ) → ℕ
parts_divisor [] = 0
parts_divisor (p ∷ ps) = common_divisor (unsigned_abs p.1) (parts_divisor ps)

-- the greatest integer not above z / d, and the least one not below it, for a divisor above 0
abbrev pub floor_quotient : ℤ → ℕ → ℤ
floor_quotient z d = int_div_euclid z (pos d)

abbrev pub ceiling_quotient : ℤ → ℕ → ℤ
ceiling_quotient z d = neg_ℤ (int_div_euclid (neg_ℤ z) (pos d))

abbrev pub divided_parts : ℕ → List (ℕ × ℤ) → List (ℕ × ℤ)
divided_parts d [] = []
divided_parts d (p ∷ ps) = (p.0, floor_quotient p.1 d) ∷ divided_parts d ps

-- the coefficients and the constant divided, the constant rounded up
abbrev pub divided : ℕ → LinearSum → LinearSum
divided d t = record { parts = divided_parts d t.parts; constant = ceiling_quotient t.constant d }

-- what a row is divided by: the greatest common divisor of its coefficients, or 1
abbrev pub row_divisor : LinearSum → ℕ
row_divisor t = if nat_lt 1 (parts_divisor t.parts) then parts_divisor t.parts else 1

-- a row divided by the greatest common divisor of its coefficients; the same integers meet it
abbrev pub tightened : LinearSum → LinearSum
tightened t = if nat_lt 1 (parts_divisor t.parts) then divided (parts_divisor t.parts) t else t
