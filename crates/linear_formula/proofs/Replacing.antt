-- Sums in the places of columns.
use Rattle.std.proofs.Common.{◌≡◌, ℕ, ◌<◌, ◌≤◌, ◌+◌, ◌^◌, List, [], ◌∷◌, ◌++◌, length, drop, ℤ, pos, ◌+ℤ◌, to_z, of_z, FitsSigned, arith, ◌∙◌, ap, sym, append_assoc, to_z-of_z}
use Rattle.std.specs.Int.{w64, w128}
use Rattle.std.specs.Prelude.{unsigned_abs, IsTrue}
use Rattle.std.proofs.lemmas.Int.{ints, fits_signed_from_abs}
use Rattle.linear_formula.specs.LinearSum.{LinearSum, value_of, value_of_parts, is_term}
use Rattle.linear_formula.specs.Results.{constant_sum, combination_value}
use Rattle.linear_formula.specs.Replaced.{column_sum, summands_of_parts, summands_of, replaced, replaced_valuation}
use Rattle.linear_formula.proofs.Finishing.{cast_wide}
use Rattle.linear_formula.proofs.Limits.{IsTerm-from_test, test-from_IsTerm}
use Rattle.linear_formula.proofs.Merging.{at, drop_at}
use Rattle.linear_formula.proofs.Values.{value-combination}

-- a coefficient as a multiplier
pub fits_multiplier : (a : ℤ) → unsigned_abs a ≤ 2 ^ 40 → FitsSigned w64 (to_z w128 (of_z w128 a))
fits_multiplier a h =
    fits_signed_from_abs w64 (to_z w128 (of_z w128 a)) (omega (arith, h, ap unsigned_abs (cast_wide a (omega (arith, h)))))

pub cast_multiplier : (a : ℤ) → unsigned_abs a ≤ 2 ^ 40 → to_z w64 (of_z w64 (to_z w128 (of_z w128 a))) ≡ a
cast_multiplier a h = to_z-of_z (fits_multiplier a h) ∙ cast_wide a (omega (arith, h))

-- a summand more
pub summands-step : (by : ℕ → LinearSum) (ps : List (ℕ × ℤ)) (out new all : List (ℤ × LinearSum)) (k : ℕ) (m : ℤ) (t : LinearSum) →
    out ++ summands_of_parts by (drop k ps) ≡ all → k < length ps → m ≡ (at ps k).1 → t ≡ by (at ps k).0 → new ≡ out ++ (m, t) ∷ [] →
    new ++ summands_of_parts by (drop (k + 1) ps) ≡ all
summands-step by ps out new all k m t i h em et en =
    let rest = summands_of_parts by (drop (k + 1) ps) in
    let now : (m, t) ∷ rest ≡ summands_of_parts by (drop k ps) = ap (λ z. (z, t) ∷ rest) em ∙ ap (λ u. ((at ps k).1, u) ∷ rest) et
    ∙ sym (ap (summands_of_parts by) (drop_at ps k h)) in
    ap (λ l. l ++ rest) en ∙ append_assoc out ((m, t) ∷ []) rest ∙ ap (λ l. out ++ l) now ∙ i

pub constant-term : (t : LinearSum) → IsTrue (is_term t) → IsTrue (is_term (constant_sum t.constant))
constant-term t k = test-from_IsTerm (constant_sum t.constant) (record {
  order = tt;
  within = record { count = omega arith; coefficients = tt; constant_limit = (IsTerm-from_test t k).within.constant_limit };
})

pub column-term : (x : ℕ) → x < 2 ^ 32 → IsTrue (is_term (column_sum x))
column-term x h = test-from_IsTerm (column_sum x) (record {
  order = (omega arith, h, (λ e. omega (arith, ints, e)), tt);
  within = record { count = omega arith; coefficients = (omega arith, tt); constant_limit = omega arith };
})

-- the value of a column alone
pub value-column : (v : ℕ → ℤ) (x : ℕ) → value_of v (column_sum x) ≡ v x
value-column v x = omega (arith, ints)

summands-value : (v : ℕ → ℤ) (by : ℕ → LinearSum) (ps : List (ℕ × ℤ)) (c : ℤ) →
    combination_value v (summands_of_parts by ps ++ (pos 1, constant_sum c) ∷ []) (pos 0) ≡ value_of_parts (replaced_valuation by v) ps +ℤ c
summands-value v by [] c = omega (arith, ints)
summands-value v by (p ∷ ps) c = omega (arith, ints, summands-value v by ps c)

-- sums in the places of columns are read at their values
pub value-replaced : (v : ℕ → ℤ) (by : ℕ → LinearSum) (t : LinearSum) → value_of v (replaced by t) ≡ value_of (replaced_valuation by v) t
value-replaced v by t = value-combination v (summands_of by t) (pos 0) ∙ summands-value v by t.parts t.constant
