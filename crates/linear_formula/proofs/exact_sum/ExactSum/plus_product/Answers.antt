use Rattle.std.proofs.Common.{pos, ◌+ℤ◌, ◌*ℤ◌, arith, subst, unsigned_abs, ◌≤◌, ◌+◌, ◌^◌, sym, ap, ◌∙◌}
use Rattle.linear_formula.proofs.ExactSums.{limbs_add, limbs_in, fits_low_and_middle, fits_low_sum, passed_low_sum, carry_limit, fits_high_sum, high_sum_in, passed, passed_is}
use Rattle.linear_formula.proofs.exact_sum.ExactSum.plus_product.Goals as goal

pub overflow_add-self : goal.overflow_add-self
overflow_add-self c = fits_low_and_middle c.args.self.low c.split_half-high.result.1 c.requires.low_limit c.split_half-high.ensures.rest

pub overflow_add-self-2 : goal.overflow_add-self-2
overflow_add-self-2 c =
    let k = limbs_in c.args.multiplier c.args.factor c.split_half-factor_high.result.0 c.split_half-factor_high.result.1 c.product.result
    c.split_half-high.result.0 c.split_half-high.result.1 c.product-2.result c.ranges.multiplier c.requires.factor_limit
    c.split_half-factor_high.ensures.whole c.split_half-factor_high.ensures.quotient c.split_half-factor_high.ensures.rest
    c.product.ensures.value c.product.ensures.limit c.split_half-high.ensures.whole c.split_half-high.ensures.quotient
    c.split_half-high.ensures.rest c.product-2.ensures.value c.product-2.ensures.limit in
    fits_low_sum c.args.self.low c.split_half-high.result.1 c.product-2.result c.requires.low_limit k.t_limit k.u_limit

pub overflow_add-result : goal.overflow_add-result
overflow_add-result c =
    let k = limbs_in c.args.multiplier c.args.factor c.split_half-factor_high.result.0 c.split_half-factor_high.result.1 c.product.result
    c.split_half-high.result.0 c.split_half-high.result.1 c.product-2.result c.ranges.multiplier c.requires.factor_limit
    c.split_half-factor_high.ensures.whole c.split_half-factor_high.ensures.quotient c.split_half-factor_high.ensures.rest
    c.product.ensures.value c.product.ensures.limit c.split_half-high.ensures.whole c.split_half-high.ensures.quotient
    c.split_half-high.ensures.rest c.product-2.ensures.value c.product-2.ensures.limit in
    fits_high_sum c.args.self.high c.split_half-high.result.0 (omega (arith, c.requires.high_limit)) k.h_limit

pub overflow_add-result-2 : goal.overflow_add-result-2
overflow_add-result-2 c =
    let k = limbs_in c.args.multiplier c.args.factor c.split_half-factor_high.result.0 c.split_half-factor_high.result.1 c.product.result
    c.split_half-high.result.0 c.split_half-high.result.1 c.product-2.result c.ranges.multiplier c.requires.factor_limit
    c.split_half-factor_high.ensures.whole c.split_half-factor_high.ensures.quotient c.split_half-factor_high.ensures.rest
    c.product.ensures.value c.product.ensures.limit c.split_half-high.ensures.whole c.split_half-high.ensures.quotient
    c.split_half-high.ensures.rest c.product-2.ensures.value c.product-2.ensures.limit in
    let s = high_sum_in c.args.self.high c.split_half-high.result.0 c.split_limb-carry.result.0 c.requires.high_limit k.h_limit
    (carry_limit c.args.self.low c.split_half-high.result.1 c.product-2.result c.split_limb-carry.result.0 c.requires.low_limit k.t_limit
    k.u_limit c.split_limb-carry.ensures.quotient) in
    s.fits

pub returns-clause-value : goal.returns-clause-value
returns-clause-value c =
    let k = limbs_in c.args.multiplier c.args.factor c.split_half-factor_high.result.0 c.split_half-factor_high.result.1 c.product.result
    c.split_half-high.result.0 c.split_half-high.result.1 c.product-2.result c.ranges.multiplier c.requires.factor_limit
    c.split_half-factor_high.ensures.whole c.split_half-factor_high.ensures.quotient c.split_half-factor_high.ensures.rest
    c.product.ensures.value c.product.ensures.limit c.split_half-high.ensures.whole c.split_half-high.ensures.quotient
    c.split_half-high.ensures.rest c.product-2.ensures.value c.product-2.ensures.limit in
    let s = high_sum_in c.args.self.high c.split_half-high.result.0 c.split_limb-carry.result.0 c.requires.high_limit k.h_limit
    (carry_limit c.args.self.low c.split_half-high.result.1 c.product-2.result c.split_limb-carry.result.0 c.requires.low_limit k.t_limit
    k.u_limit c.split_limb-carry.ensures.quotient) in
    ap (λ z. (z *ℤ pos (2 ^ 96)) +ℤ passed c.split_limb-carry.result.1) s.value
    ∙ ap (λ z. (((c.args.self.high +ℤ c.split_half-high.result.0) +ℤ c.split_limb-carry.result.0) *ℤ pos (2 ^ 96)) +ℤ z)
    (passed_is c.split_limb-carry.result.1 (omega (arith, c.split_limb-carry.ensures.rest))) ∙ limbs_add c.args.self.high c.args.self.low
    c.args.multiplier c.args.factor c.split_half-factor_high.result.0 c.split_half-factor_high.result.1 c.product.result
    c.split_half-high.result.0 c.split_half-high.result.1 c.product-2.result c.split_limb-carry.result.0 c.split_limb-carry.result.1
    k.factor k.product k.split k.rest
    (sym (passed_low_sum c.args.self.low c.split_half-high.result.1 c.product-2.result c.requires.low_limit
    k.t_limit k.u_limit) ∙ c.split_limb-carry.ensures.whole)

pub returns-clause-high : goal.returns-clause-high
returns-clause-high c =
    let k = limbs_in c.args.multiplier c.args.factor c.split_half-factor_high.result.0 c.split_half-factor_high.result.1 c.product.result
    c.split_half-high.result.0 c.split_half-high.result.1 c.product-2.result c.ranges.multiplier c.requires.factor_limit
    c.split_half-factor_high.ensures.whole c.split_half-factor_high.ensures.quotient c.split_half-factor_high.ensures.rest
    c.product.ensures.value c.product.ensures.limit c.split_half-high.ensures.whole c.split_half-high.ensures.quotient
    c.split_half-high.ensures.rest c.product-2.ensures.value c.product-2.ensures.limit in
    let s = high_sum_in c.args.self.high c.split_half-high.result.0 c.split_limb-carry.result.0 c.requires.high_limit k.h_limit
    (carry_limit c.args.self.low c.split_half-high.result.1 c.product-2.result c.split_limb-carry.result.0 c.requires.low_limit k.t_limit
    k.u_limit c.split_limb-carry.ensures.quotient) in
    subst (λ z. unsigned_abs z ≤ unsigned_abs c.args.self.high + 2 ^ 53) (sym s.value) s.limit
