-- Bounds of the numbers of rows, by which no sum of two of them is too wide.
use Rattle.std.specs.Prelude.{All, IsTrue, ℕ, ℤ, pos, ◌+◌, ◌*◌, ◌<◌, ◌≤◌, List, length, slice_index_or, unsigned_abs}
use Rattle.linear_formula.specs.LinearSum.{LinearSum, max_parts, max_coefficient, max_constant, is_within}
use Rattle.shadow_elim.specs.declared.row.Row.{Row}
use Rattle.shadow_elim.specs.declared.sizes.Sizes.{Sizes}
use Rattle.shadow_elim.specs.Elimination.{pair_sum}

-- the first coefficients are no greater than this
abbrev pub AreSized : List (ℕ × ℤ) → (count size : ℕ) → Type 0
AreSized parts count size = (k : ℕ) → k < count →
    unsigned_abs (slice_index_or parts k (0, pos 0)).1 ≤ size

-- no number of the row is greater than these
pub record IsSized (t : LinearSum) (s : Sizes) : Type 0 where
  pub count : length t.parts ≤ s.count
  pub coefficients : AreSized t.parts (length t.parts) s.coefficient
  pub constant : unsigned_abs t.constant ≤ s.constant

-- the sizes of terms
pub record AreLimited (s : Sizes) : Type 0 where
  pub count : s.count ≤ max_parts
  pub coefficient : s.coefficient ≤ max_coefficient
  pub constant : s.constant ≤ max_constant

pub record IsUpTo (s r : Sizes) : Type 0 where
  pub count : s.count ≤ r.count
  pub coefficient : s.coefficient ≤ r.coefficient
  pub constant : s.constant ≤ r.constant

-- no sum of an upper row of the first sizes and a lower one of the second is too wide
pub record DoFit (s r : Sizes) : Type 0 where
  pub count : s.count + r.count ≤ max_parts
  pub coefficients : 2 * (s.coefficient * r.coefficient) ≤ max_coefficient
  pub constants : r.coefficient * s.constant + s.coefficient * r.constant ≤ max_constant

-- there are sizes of all upper rows and sizes of all lower ones that fit
pub record AreFitting (uppers lowers : List Row) : Type 0 where
  pub upper : Sizes
  pub lower : Sizes
  pub uppers_sized : All (λ u. IsSized u.term upper) uppers
  pub lowers_sized : All (λ l. IsSized l.term lower) lowers
  pub fit : DoFit upper lower

abbrev pub NoneIsWide : ℕ → (uppers lowers : List Row) → Type 0
NoneIsWide x uppers lowers =
    All (λ u. All (λ l. IsTrue (is_within (pair_sum x (u.term, l.term)))) lowers) uppers
