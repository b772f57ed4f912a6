-- What the operations on sums give, exactly.
use Rattle.std.specs.Prelude.{ℕ, nat_lt, ◌==◌, List, [], ◌∷◌, ℤ, pos, negsuc, ◌+ℤ◌, ◌*ℤ◌, neg_ℤ, if◌then◌else◌}
use Rattle.linear_formula.specs.LinearSum.{LinearSum, Valuation, value_of, coefficient, is_zero}

-- the part a·x in front, left out where a is 0
abbrev pub put_part : ℕ → ℤ → List (ℕ × ℤ) → List (ℕ × ℤ)
put_part x a ps = if is_zero a then ps else ((x, a) ∷ ps)

-- a·x added to parts in ascending order
abbrev pub with_part : ℕ → ℤ → List (ℕ × ℤ) → List (ℕ × ℤ)
with_part x a [] = put_part x a []
with_part x a (p ∷ ps) =
    if nat_lt x p.0 then put_part x a (p ∷ ps) else (if x == p.0 then put_part x (a +ℤ p.1) ps else
    (p ∷ with_part x a ps))

-- m times the first parts, and the second
abbrev pub plus_parts : ℤ → List (ℕ × ℤ) → List (ℕ × ℤ) → List (ℕ × ℤ)
plus_parts m [] qs = qs
plus_parts m (p ∷ ps) qs = with_part p.0 (m *ℤ p.1) (plus_parts m ps qs)

-- m times t, and u
abbrev pub plus_multiple : ℤ → LinearSum → LinearSum → LinearSum
plus_multiple m t u = record {
  parts = plus_parts m t.parts u.parts;
  constant = (m *ℤ t.constant) +ℤ u.constant;
}

-- m times t, and n times u
abbrev pub plus_both : ℤ → LinearSum → ℤ → LinearSum → LinearSum
plus_both m t n u = record {
  parts = plus_parts m t.parts (plus_parts n u.parts []);
  constant = (m *ℤ t.constant) +ℤ (n *ℤ u.constant);
}

abbrev pub constant_sum : ℤ → LinearSum
constant_sum c = record { parts = []; constant = c }

-- the sum of multiples, and a constant
abbrev pub combination : List (ℤ × LinearSum) → ℤ → LinearSum
combination [] c = constant_sum c
combination (s ∷ rest) c = plus_multiple s.0 s.1 (combination rest c)

abbrev pub combination_value : Valuation → List (ℤ × LinearSum) → ℤ → ℤ
combination_value v [] c = c
combination_value v (s ∷ rest) c = (s.0 *ℤ value_of v s.1) +ℤ combination_value v rest c

-- the parts of the other columns
abbrev pub without_part : ℕ → List (ℕ × ℤ) → List (ℕ × ℤ)
without_part x [] = []
without_part x (p ∷ ps) = if x == p.0 then without_part x ps else (p ∷ without_part x ps)

abbrev pub without_column : ℕ → LinearSum → LinearSum
without_column x t = record { parts = without_part x t.parts; constant = t.constant }

-- the sum with `by` in place of the column
abbrev pub substituted : ℕ → LinearSum → LinearSum → LinearSum
substituted x by t = plus_multiple (coefficient x t) by (without_column x t)

-- 1 - t
abbrev pub negated : LinearSum → LinearSum
negated t = combination ((negsuc 0, t) ∷ []) (pos 1)

abbrev pub negated_parts : List (ℕ × ℤ) → List (ℕ × ℤ)
negated_parts [] = []
negated_parts (p ∷ ps) = (p.0, neg_ℤ p.1) ∷ negated_parts ps

-- the number listed for a column, and the column itself where none is
abbrev pub renamed_column : List (ℕ × ℕ) → ℕ → ℕ
renamed_column [] x = x
renamed_column (p ∷ ps) x = if x == p.0 then p.1 else renamed_column ps x

abbrev pub renamed_parts : (ℕ → ℕ) → List (ℕ × ℤ) → List (ℕ × ℤ)
renamed_parts new_of [] = []
renamed_parts new_of (p ∷ ps) = with_part (new_of p.0) p.1 (renamed_parts new_of ps)

-- each column by its new number, all at once
abbrev pub renamed_by : (ℕ → ℕ) → LinearSum → LinearSum
renamed_by new_of t = record { parts = renamed_parts new_of t.parts; constant = t.constant }

abbrev pub renamed : List (ℕ × ℕ) → LinearSum → LinearSum
renamed map t = renamed_by (renamed_column map) t

-- the valuation of the old columns that reads the new ones
abbrev pub renamed_valuation : List (ℕ × ℕ) → Valuation → Valuation
renamed_valuation map v x = v (renamed_column map x)

-- the valuation with the value z at the column
abbrev pub valuation_with : Valuation → ℕ → ℤ → Valuation
valuation_with v x z y = if x == y then z else v y
