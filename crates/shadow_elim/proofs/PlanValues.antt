-- The values that the plan chooses have 64 bits.
use Rattle.std.proofs.Common.{◌≡◌, ℕ, zero, suc, Bool, true, false, List, [], ◌∷◌, ◌++◌, length, ℤ, pos, arith, refl, subst, ◌∙◌}
use Rattle.std.specs.Prelude.{◌≤ℤ◌, ◌+ℤ◌, neg_ℤ, map, filter, IsTrue, ◌==◌, int_le, nat_le, nat_lt, if◌then◌else◌}
use Rattle.std.specs.List.{list_any}
use Rattle.std.proofs.lemmas.Int.{ints}
use Rattle.linear_formula.specs.LinearSum.{LinearSum, valuation, listed_at, is64, Is64}
use Rattle.linear_formula.specs.declared.formula.Atom.{Atom}
use Rattle.linear_formula.specs.declared.formula.Cube.{Cube}
use Rattle.infeasible_cert.specs.Right.{rows_of, columns_of, base_rows, at_most, at_least}
use Rattle.shadow_elim.specs.declared.limit.Limit.TheVariants.{Columns, Branches}
use Rattle.shadow_elim.specs.declared.limit.TheConstants.{MAX_COLUMNS, MAX_SPLITS}
use Rattle.shadow_elim.specs.Division.{floor_quotient, ceiling_quotient}
use Rattle.shadow_elim.specs.Elimination.{Remainder, remains, wide, too_many, is_upper, is_lower, size_of, after_column}
use Rattle.shadow_elim.specs.Plan.{Search, found, nothing, limit_met, outcome_of, cube_of, with_row, search_on, settled, search, solution}
use Rattle.shadow_elim.specs.Points.{Outcome, chosen, refuted, split, too_wide, too_many_rows, least_value, greatest_value, rest_of, lower_bound, upper_bound, lower_floor, nearest, with_value, outcome_after, outcome}
use Rattle.shadow_elim.specs.Reduction.{is_contradiction}
use Rattle.shadow_elim.proofs.Bests.{greatest-start, least-start, nearest-within}
use Rattle.shadow_elim.proofs.Exact.{is64-from_bounds}
use Rattle.shadow_elim.proofs.Tests.{le_from}

pub chosen_same : (values others : List (ℕ × ℤ)) → chosen values ≡ chosen others → values ≡ others
chosen_same values others h = cc

found_same : (values others : List (ℕ × ℤ)) → found values ≡ found others → values ≡ others
found_same values others h = cc

nearest_64 : (x : ℕ) (values : List (ℕ × ℤ)) (rows : List LinearSum) → int_le (lower_bound x values rows) (upper_bound x values rows)
    ≡ true →
    IsTrue (is64 (nearest (lower_bound x values rows) (upper_bound x values rows)))
nearest_64 x values rows h =
    let low = lower_bound x values rows in
    let high = upper_bound x values rows in
    let within = nearest-within low high (le_from low high h) in
    let least : least_value ≤ℤ low = greatest-start least_value (map (λ t. ceiling_quotient (rest_of values t) (size_of x t))
    (filter (is_lower x) rows)) in
    let greatest : high ≤ℤ greatest_value = least-start greatest_value (map (λ t. floor_quotient (neg_ℤ (rest_of values t)) (size_of x t))
    (filter (is_upper x) rows)) in
    is64-from_bounds (nearest low high) (omega (arith, ints, within.1, greatest)) (omega (arith, ints, within.0, least))

one_more_64 : (x : ℕ) (z : ℤ) (values : List (ℕ × ℤ)) → IsTrue (is64 z) → Is64 (valuation values) → Is64 (valuation ((x, z) ∷ values))
one_more_64 x z values h k y = by_test (y == x) where
  by_test : (b : Bool) → IsTrue (is64 (if b then z else listed_at y values))
  by_test true = h
  by_test false = k y

chosen_64 : (columns : List ℕ) (rows : List LinearSum) (values : List (ℕ × ℤ)) → outcome columns rows ≡ chosen values →
    Is64 (valuation values)
chosen_64 [] rows values h = by_test (list_any is_contradiction rows) h where
  by_test : (b : Bool) → (if b then refuted else chosen []) ≡ chosen values → Is64 (valuation values)
  by_test true d = absurd (cc)
  by_test false d = subst (λ vs. Is64 (valuation vs)) (chosen_same [] values d) (λ y. refl)
chosen_64 (x ∷ xs) rows values h =
    by_remainder (λ next old i. chosen_64 xs next old i) (after_column x rows) h where
      Rest : Type 0
      Rest = (next : List LinearSum) (old : List (ℕ × ℤ)) → outcome xs next ≡ chosen old → Is64 (valuation old)

      by_order : (old : List (ℕ × ℤ)) (b : Bool) → int_le (lower_bound x old rows) (upper_bound x old rows) ≡ b → Is64 (valuation old) →
          (if b then chosen ((x, nearest (lower_bound x old rows) (upper_bound x old rows)) ∷ old) else split x (lower_floor x old rows))
          ≡ chosen values →
          Is64 (valuation values)
      by_order old true f k d =
          let z = nearest (lower_bound x old rows) (upper_bound x old rows) in
          subst (λ vs. Is64 (valuation vs)) (chosen_same ((x, z) ∷ old) values d) (one_more_64 x z old (nearest_64 x old rows f) k)
      by_order old false f k d = absurd (cc)

      by_outcome : Rest → (next : List LinearSum) (o : Outcome) → outcome xs next ≡ o → with_value x rows o ≡ chosen values →
          Is64 (valuation values)
      by_outcome r next (chosen old) i e = by_order old (int_le (lower_bound x old rows) (upper_bound x old rows)) refl (r next old i) e
      by_outcome r next refuted i e = absurd (cc)
      by_outcome r next (split y m) i e = absurd (cc)
      by_outcome r next too_wide i e = absurd (cc)
      by_outcome r next too_many_rows i e = absurd (cc)

      by_remainder : Rest → (r : Remainder) → with_value x rows (outcome_after (outcome xs) r) ≡ chosen values → Is64 (valuation values)
      by_remainder r (remains next) d = by_outcome r next (outcome xs next) refl d
      by_remainder r wide d = absurd (cc)
      by_remainder r too_many d = absurd (cc)

-- what is met without a split, or after one
settled_64 : (splits : List Cube) (atoms : List Atom) (divide : ℕ → ℤ → Search) (values : List (ℕ × ℤ)) →
    ((x : ℕ) (k : ℤ) → divide x k ≡ found values → Is64 (valuation values)) → settled splits atoms divide (outcome_of atoms)
    ≡ found values →
    Is64 (valuation values)
settled_64 splits atoms divide values rest h = by_outcome (outcome_of atoms) refl h where
  by_outcome : (o : Outcome) → outcome_of atoms ≡ o → settled splits atoms divide o ≡ found values → Is64 (valuation values)
  by_outcome (chosen old) e d =
      subst (λ vs. Is64 (valuation vs)) (found_same old values d) (chosen_64 (columns_of (rows_of atoms)) (base_rows atoms) old e)
  by_outcome refuted e d = absurd (cc)
  by_outcome (split x k) e d = rest x k d
  by_outcome too_wide e d = absurd (cc)
  by_outcome too_many_rows e d = absurd (cc)

search_64 : (depth : ℕ) (splits : List Cube) (atoms : List Atom) (values : List (ℕ × ℤ)) → search depth splits atoms ≡ found values →
    Is64 (valuation values)
search_64 zero splits atoms values h = settled_64 splits atoms (λ x k. limit_met (Branches splits)) values (λ x k d. absurd (cc)) h
search_64 (suc depth) splits atoms values h =
    settled_64 splits atoms _ values (λ x k d. by_room x k (λ more side e. search_64 depth more side values e)
    (nat_le MAX_SPLITS (length splits)) d)
    h where
      Rest : Type 0
      Rest = (more : List Cube) (side : List Atom) → search depth more side ≡ found values → Is64 (valuation values)

      low : ℕ → ℤ → Search
      low x k = search depth (splits ++ cube_of atoms ∷ []) (with_row atoms (at_most x k))

      high : ℕ → ℤ → List Cube → Search
      high x k more = search depth more (with_row atoms (at_least x (k +ℤ pos 1)))

      by_low : (x : ℕ) (k : ℤ) → Rest → (s : Search) → low x k ≡ s → search_on (high x k) s ≡ found values → Is64 (valuation values)
      by_low x k r (found old) e d = r (splits ++ cube_of atoms ∷ []) (with_row atoms (at_most x k)) (e ∙ d)
      by_low x k r (nothing more) e d = r more (with_row atoms (at_least x (k +ℤ pos 1))) d
      by_low x k r (limit_met m) e d = absurd (cc)

      by_room : (x : ℕ) (k : ℤ) → Rest → (b : Bool) → (if b then limit_met (Branches splits) else search_on (high x k) (low x k))
          ≡ found values →
          Is64 (valuation values)
      by_room x k r true d = absurd (cc)
      by_room x k r false d = by_low x k r (low x k) refl d

few_64 : (depth : ℕ) (atoms : List Atom) (values : List (ℕ × ℤ)) (b : Bool) →
    (if b then limit_met Columns else search depth [] atoms) ≡ found values → Is64 (valuation values)
few_64 depth atoms values true d = absurd (cc)
few_64 depth atoms values false d = search_64 depth [] atoms values d

-- a point that the plan finds has values of 64 bits
pub solution_64 : (atoms : List Atom) (values : List (ℕ × ℤ)) → solution atoms ≡ found values → Is64 (valuation values)
solution_64 atoms values h = few_64 MAX_SPLITS atoms values (nat_lt MAX_COLUMNS (length (columns_of (rows_of atoms)))) h
