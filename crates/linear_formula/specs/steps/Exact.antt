-- Exact sums of products in two limbs, and those gathered by their columns.
use Rattle.std.specs.Prelude.{ℕ, ◌+◌, ◌*◌, ◌^◌, ◌<◌, ◌≤◌, List, [], ◌∷◌, ℤ, pos, ◌+ℤ◌, ◌*ℤ◌, unsigned_abs}
use Rattle.linear_formula.specs.declared.exact_sum.ExactSum.{ExactSum}
use Rattle.linear_formula.specs.Results.{put_part}

abbrev pub exact_value : ExactSum → ℤ
exact_value s = (s.high *ℤ pos (2 ^ 96)) +ℤ s.low

-- after this many additions there is room for more
abbrev pub HasRoom : ℕ → ExactSum → Type 0
HasRoom adds s = (unsigned_abs s.high ≤ adds * 2 ^ 53) × (unsigned_abs s.low < 2 ^ 96)

-- columns in order from `low` on, with sums that have room
abbrev pub AreSums : ℕ → ℕ → List (ℕ × ExactSum) → Type 0
AreSums adds low [] = Unit {0}
AreSums adds low (e ∷ es) = (low ≤ e.0) × (e.0 < 2 ^ 32) × HasRoom adds e.1 × AreSums adds (e.0 + 1)
    es

abbrev pub no_sum : ExactSum
no_sum = record { high = pos 0; low = pos 0 }

abbrev pub exact_parts : List (ℕ × ExactSum) → List (ℕ × ℤ)
exact_parts [] = []
exact_parts (e ∷ es) = put_part e.0 (exact_value e.1) (exact_parts es)
