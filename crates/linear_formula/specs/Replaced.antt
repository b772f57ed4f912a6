-- A sum with other sums in the places of its columns, all at once.
use Rattle.std.specs.Prelude.{ℕ, List, [], ◌∷◌, ◌++◌, ℤ, pos}
use Rattle.linear_formula.specs.LinearSum.{LinearSum, Valuation, value_of}
use Rattle.linear_formula.specs.Results.{combination, constant_sum}

-- the column alone
abbrev pub column_sum : ℕ → LinearSum
column_sum x = record { parts = (x, pos 1) ∷ []; constant = pos 0 }

abbrev pub summands_of_parts : (ℕ → LinearSum) → List (ℕ × ℤ) → List (ℤ × LinearSum)
summands_of_parts by [] = []
summands_of_parts by (p ∷ ps) = (p.1, by p.0) ∷ summands_of_parts by ps

-- what is added up: a multiple of a sum for each part, in order, and then the constant
abbrev pub summands_of : (ℕ → LinearSum) → LinearSum → List (ℤ × LinearSum)
summands_of by t = summands_of_parts by t.parts ++ (pos 1, constant_sum t.constant) ∷ []

abbrev pub replaced : (ℕ → LinearSum) → LinearSum → LinearSum
replaced by t = combination (summands_of by t) (pos 0)

-- the valuation of the old columns that reads the sums in their places
abbrev pub replaced_valuation : (ℕ → LinearSum) → Valuation → Valuation
replaced_valuation by v x = value_of v (by x)
