-- Rows as sums in order, and the first sum that is too wide.
use Rattle.std.specs.Prelude.{◌≡◌, ℕ, IsTrue, List, [], ◌∷◌, map, Option, None, Some, slice_index_or, pos, negsuc, if◌then◌else◌}
use Rattle.linear_formula.specs.LinearSum.{LinearSum, is_within}
use Rattle.linear_formula.specs.Results.{combination, constant_sum}
use Rattle.linear_formula.specs.Replaced.{column_sum, summands_of}
use Rattle.linear_formula.specs.declared.formula.Atom.{Atom}
use Rattle.linear_formula.specs.declared.question.Question.TheVariants as asks
use Rattle.shadow_elim.specs.declared.limit.Limit.TheVariants.{Wide}
use Rattle.shadow_elim.specs.declared.limit.Kept.{Kept}
use Rattle.shadow_elim.specs.declared.sum.Sum.{Sum}

abbrev pub total : Sum → LinearSum
total s = combination s.summands s.constant

-- the first sum that is beyond the limits of a term
abbrev pub first_wide : List Sum → Option Sum
first_wide [] = None
first_wide (s ∷ sums) = if is_within (total s) then first_wide sums else Some s

abbrev pub rows_of_sums : List Sum → List Atom
rows_of_sums sums = map (λ s. record { term = total s }) sums

-- rows with sums in the places of their columns
abbrev pub row_sums : (ℕ → LinearSum) → List Atom → List Sum
row_sums by atoms = map (λ a. record { summands = summands_of by a.term; constant = pos 0 }) atoms

-- columns by their new numbers
abbrev pub renaming : (ℕ → ℕ) → ℕ → LinearSum
renaming f x = column_sum (f x)

-- s = t as two rows
abbrev pub equal_sums : LinearSum → LinearSum → List Sum
equal_sums s t =
    record { summands = (pos 1, s) ∷ (negsuc 0, t) ∷ []; constant = pos 0 }
    ∷ record { summands = (pos 1, t) ∷ (negsuc 0, s) ∷ []; constant = pos 0 } ∷ []

-- the term at a place, 0 after the last one
abbrev pub term_at : List LinearSum → ℕ → LinearSum
term_at terms i = slice_index_or terms i (constant_sum (pos 0))

-- the limit of a sum that is too wide
abbrev pub wide_sum : Sum → Kept
wide_sum s = record {
  question = asks.Combine s.summands s.constant;
  limit = Wide (asks.Combine s.summands s.constant);
}

-- the sum is too wide, and the limit is its
pub record IsWideSum (sum : Sum) (kept : Kept) : Type 0 where
  pub same : kept ≡ wide_sum sum
  pub wide : ¬ IsTrue (is_within (total sum))

-- the limit of the first sum that is too wide
pub record IsFirstWide (sums : List Sum) (kept : Kept) : Type 0 where
  pub sum : Sum
  pub first : first_wide sums ≡ Some sum
  pub same : kept ≡ wide_sum sum
