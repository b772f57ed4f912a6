-- How columns get values, from the last one to the first.
use Rattle.std.specs.Prelude.{ℕ, List, [], ◌∷◌, map, filter, ℤ, pos, negsuc, neg_ℤ, int_lt, int_le, if◌then◌else◌}
use Rattle.std.specs.Int.{int_max, int_min}
use Rattle.std.specs.List.{list_any}
use Rattle.linear_formula.specs.LinearSum.{LinearSum, value_of, valuation}
use Rattle.shadow_elim.specs.Division.{floor_quotient, ceiling_quotient}
use Rattle.shadow_elim.specs.Reduction.{is_contradiction}
use Rattle.shadow_elim.specs.Elimination.{Remainder, remains, wide, too_many, is_upper, is_lower, size_of, after_column}

abbrev pub least_value : ℤ
least_value = negsuc 9223372036854775807

abbrev pub greatest_value : ℤ
greatest_value = pos 9223372036854775807

abbrev pub greatest_of : ℤ → List ℤ → ℤ
greatest_of z [] = z
greatest_of z (y ∷ ys) = greatest_of (int_max z y) ys

abbrev pub least_of : ℤ → List ℤ → ℤ
least_of z [] = z
least_of z (y ∷ ys) = least_of (int_min z y) ys

-- A row at the values chosen so far, where the columns without a value count 0. For a row a·x +
-- rest with a above 0, x is at most -rest / a; for a row -b·x + rest, x is at least rest / b.
abbrev pub rest_of : List (ℕ × ℤ) → LinearSum → ℤ
rest_of values t = value_of (valuation values) t

-- The greatest integer that the upper rows allow, the least one that the lower rows allow, and the
-- greatest one that is not above their bound before it is rounded. The rows of the range are among
-- them.
abbrev pub upper_bound : ℕ → List (ℕ × ℤ) → List LinearSum → ℤ
upper_bound x values rows =
    least_of greatest_value (map (λ t. floor_quotient (neg_ℤ (rest_of values t)) (size_of x t))
    (filter (is_upper x) rows))

abbrev pub lower_bound : ℕ → List (ℕ × ℤ) → List LinearSum → ℤ
lower_bound x values rows =
    greatest_of least_value (map (λ t. ceiling_quotient (rest_of values t) (size_of x t))
    (filter (is_lower x) rows))

abbrev pub lower_floor : ℕ → List (ℕ × ℤ) → List LinearSum → ℤ
lower_floor x values rows =
    greatest_of least_value (map (λ t. floor_quotient (rest_of values t) (size_of x t))
    (filter (is_lower x) rows))

-- the integer nearest to 0 from the lower bound to the upper one
abbrev pub nearest : (low high : ℤ) → ℤ
nearest low high = if int_lt (pos 0) low then low else (if int_lt high (pos 0) then high else pos 0)

-- The outcome of a branch: values for its columns, a contradiction, a split of a column into at
-- most k and at least k + 1, or a limit of the elimination.
pub data Outcome : Type 0 where
  chosen : List (ℕ × ℤ) → Outcome
  refuted : Outcome
  split : (column : ℕ) (at : ℤ) → Outcome
  too_wide : Outcome
  too_many_rows : Outcome

-- a value for one more column
abbrev pub with_value : ℕ → List LinearSum → Outcome → Outcome
with_value x rows (chosen values) =
    let low = lower_bound x values rows in
    let high = upper_bound x values rows in
    if int_le low high then chosen ((x, nearest low high) ∷ values) else split x
    (lower_floor x values rows)
with_value x rows refuted = refuted
with_value x rows (split y k) = split y k
with_value x rows too_wide = too_wide
with_value x rows too_many_rows = too_many_rows

abbrev pub outcome_after : (List LinearSum → Outcome) → Remainder → Outcome
outcome_after next (remains rows) = next rows
outcome_after next wide = too_wide
outcome_after next too_many = too_many_rows

-- all columns are eliminated, a contradiction is looked for, and then the columns get values, the
-- last one first
abbrev pub outcome : List ℕ → List LinearSum → Outcome
outcome [] rows = if list_any is_contradiction rows then refuted else chosen []
outcome (x ∷ xs) rows = with_value x rows (outcome_after (outcome xs) (after_column x rows))
