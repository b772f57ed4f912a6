use Rattle.std.proofs.Common.{◌≡◌, FitsSigned, to_z, of_z, to_z-of_z, ℤ, pos, neg_ℤ, ◌+ℤ◌, ◌-ℤ◌, arith, rules, sym, ap, ◌∙◌}
use Rattle.std.specs.Int.{w128, int_min, int_max}
use Rattle.std.proofs.lemmas.Int.{ints}
use Rattle.linear_formula.specs.LinearSum.{valuation}
use Rattle.shadow_elim.specs.Division.{floor_quotient}
use Rattle.shadow_elim.specs.Elimination.{size_of}
use Rattle.shadow_elim.specs.Points.{rest_of}
use Rattle.lia_solver.specs.steps.Solved.{upper_of, lower_of, floor_of}
use Rattle.linear_formula.proofs.Limits.{IsTerm-from_test}
use Rattle.lia_solver.proofs.PairSumsInCode.{row_of}
use Rattle.lia_solver.proofs.Bounded.{with-above, with-below, size-above, size-below, value-above, value-below, behind-within}
use Rattle.lia_solver.proofs.bounds.Bounds.with_row.Goals as goal

pub value-rest-requires-clause-limits : goal.value-rest-requires-clause-limits
value-rest-requires-clause-limits c =
    behind-within c.args.parts.now (IsTerm-from_test (row_of c.args.parts.now c.args.constant) c.requires.term).within.coefficients

pub first_size-requires-clause-limits : goal.first_size-requires-clause-limits
first_size-requires-clause-limits c = (IsTerm-from_test (row_of c.args.parts.now c.args.constant) c.requires.term).within.coefficients

pub value-rest-requires-then-bounds_below-clause-limits : goal.value-rest-requires-then-bounds_below-clause-limits
value-rest-requires-then-bounds_below-clause-limits c =
    behind-within c.args.parts.now (IsTerm-from_test (row_of c.args.parts.now c.args.constant) c.requires.term).within.coefficients

pub first_size-requires-then-bounds_below-clause-limits : goal.first_size-requires-then-bounds_below-clause-limits
first_size-requires-then-bounds_below-clause-limits c =
    (IsTerm-from_test (row_of c.args.parts.now c.args.constant) c.requires.term).within.coefficients

pub first_size-requires-then-bounds_below-2-clause-limits : goal.first_size-requires-then-bounds_below-2-clause-limits
first_size-requires-then-bounds_below-2-clause-limits c =
    (IsTerm-from_test (row_of c.args.parts.now c.args.constant) c.requires.term).within.coefficients

less : (z : ℤ) → pos 0 -ℤ z ≡ neg_ℤ z
less z = omega (arith, ints)

pub returns-then-bounds_above : goal.returns-then-bounds_above
returns-then-bounds_above c =
    let x = c.args.column in
    let at = c.args.at.now in
    let b = c.args.self in
    let t = row_of c.args.parts.now c.args.constant in
    let value = c.value-rest.result in
    let above = sym c.bounds_above.ensures ∙ c.if-bounds_above.true in
    let low_fits : FitsSigned w128 b.low = search rules in
    let floor_fits : FitsSigned w128 b.floor = search rules in
    let high_fits : FitsSigned w128 b.high = search rules in
    let constant_fits : FitsSigned w128 c.args.constant = search rules in
    let fits : FitsSigned w128 value = search rules in
    let rest : to_z w128 (of_z w128 value) ≡ rest_of at t = to_z-of_z fits ∙ c.value-rest.ensures.value
    ∙ (λ i. value-above (valuation at) x c.args.parts.now above c.requires.zero i +ℤ to_z-of_z constant_fits i) in
    let away_fits : FitsSigned w128 (pos 0 -ℤ to_z w128 (of_z w128 value)) = search rules in
    let away : to_z w128 (of_z w128 (pos 0 -ℤ to_z w128 (of_z w128 value))) ≡ neg_ℤ (rest_of at t) = to_z-of_z away_fits
    ∙ less (to_z w128 (of_z w128 value)) ∙ ap neg_ℤ rest in
    let size : c.first_size.result ≡ size_of x t = c.first_size.ensures ∙ size-above x t above in
    let high : c.floor_quotient-high.result ≡ upper_of x at t = c.floor_quotient-high.ensures.value
    ∙ (λ i. floor_quotient (away i) (size i)) in
    let quotient_fits : FitsSigned w128 c.floor_quotient-high.result = search rules in
    let min_fits : FitsSigned w128 c.min.result = search rules in
    let least : to_z w128 (of_z w128 c.min.result) ≡ int_min b.high (upper_of x at t) = to_z-of_z min_fits ∙ c.min.ensures.value
    ∙ (λ i. int_min (to_z-of_z high_fits i) ((to_z-of_z quotient_fits ∙ high) i)) in
    (λ i. record { low = to_z-of_z low_fits i; floor = to_z-of_z floor_fits i; high = least i }) ∙ sym (with-above x at t b above)

pub returns-then-bounds_below : goal.returns-then-bounds_below
returns-then-bounds_below c =
    let x = c.args.column in
    let at = c.args.at.now in
    let b = c.args.self in
    let t = row_of c.args.parts.now c.args.constant in
    let value = c.value-rest-then-bounds_below.result in
    let above = sym c.bounds_above.ensures ∙ c.if-bounds_above.false in
    let below = sym c.bounds_below.ensures ∙ c.if-bounds_below.true in
    let low_fits : FitsSigned w128 b.low = search rules in
    let floor_fits : FitsSigned w128 b.floor = search rules in
    let high_fits : FitsSigned w128 b.high = search rules in
    let constant_fits : FitsSigned w128 c.args.constant = search rules in
    let fits : FitsSigned w128 value = search rules in
    let rest : to_z w128 (of_z w128 value) ≡ rest_of at t = to_z-of_z fits ∙ c.value-rest-then-bounds_below.ensures.value
    ∙ (λ i. value-below (valuation at) x c.args.parts.now below c.requires.zero i +ℤ to_z-of_z constant_fits i) in
    let away_fits : FitsSigned w128 (pos 0 -ℤ to_z w128 (of_z w128 value)) = search rules in
    let away : to_z w128 (of_z w128 (pos 0 -ℤ to_z w128 (of_z w128 value))) ≡ neg_ℤ (rest_of at t) = to_z-of_z away_fits
    ∙ less (to_z w128 (of_z w128 value)) ∙ ap neg_ℤ rest in
    let down = c.floor_quotient-low.result in
    let size : c.first_size-then-bounds_below.result ≡ size_of x t = c.first_size-then-bounds_below.ensures ∙ size-below x t below in
    let again : c.first_size-then-bounds_below-2.result ≡ size_of x t = c.first_size-then-bounds_below-2.ensures ∙ size-below x t below in
    let down_fits : FitsSigned w128 down = search rules in
    let up_fits : FitsSigned w128 (pos 0 -ℤ to_z w128 (of_z w128 down)) = search rules in
    let low : to_z w128 (of_z w128 (pos 0 -ℤ to_z w128 (of_z w128 down))) ≡ lower_of x at t = to_z-of_z up_fits
    ∙ less (to_z w128 (of_z w128 down)) ∙ ap neg_ℤ (to_z-of_z down_fits ∙ c.floor_quotient-low.ensures.value
    ∙ (λ i. floor_quotient (away i) (size i))) in
    let floored_fits : FitsSigned w128 c.floor_quotient-floor.result = search rules in
    let floored : to_z w128 (of_z w128 c.floor_quotient-floor.result) ≡ floor_of x at t = to_z-of_z floored_fits
    ∙ c.floor_quotient-floor.ensures.value ∙ (λ i. floor_quotient (rest i) (again i)) in
    let max_fits : FitsSigned w128 c.max.result = search rules in
    let floor_max_fits : FitsSigned w128 c.max-then-bounds_below.result = search rules in
    let greatest : to_z w128 (of_z w128 c.max.result) ≡ int_max b.low (lower_of x at t) = to_z-of_z max_fits ∙ c.max.ensures.value
    ∙ (λ i. int_max (to_z-of_z low_fits i) (low i)) in
    let greatest_floor : to_z w128 (of_z w128 c.max-then-bounds_below.result) ≡ int_max b.floor (floor_of x at t) =
    to_z-of_z floor_max_fits ∙ c.max-then-bounds_below.ensures.value ∙ (λ i. int_max (to_z-of_z floor_fits i) (floored i)) in
    (λ i. record { low = greatest i; floor = greatest_floor i; high = to_z-of_z high_fits i }) ∙ sym (with-below x at t b above below)
