use Rattle.std.proofs.Common.{◌<◌, ◌-◌, ◌+◌, ◌+ℤ◌, ◌*ℤ◌, length, to_z, of_z, arith, rules, sym, subst, ap, ◌∙◌, to_z-of_z, FitsSigned}
use Rattle.std.specs.Int.{w64, w128}
use Rattle.std.specs.Prelude.{IsTrue}
use Rattle.std.proofs.lemmas.Result.{err_from_is_err_and, IfOk-weaker}
use Rattle.linear_formula.specs.LinearSum.{LinearSum, is_within, value_of}
use Rattle.linear_formula.specs.steps.Order.{AllWithin}
use Rattle.linear_formula.specs.Results.{combination, plus_parts}
use Rattle.linear_formula.specs.steps.Exact.{exact_value}
use Rattle.linear_formula.proofs.Combining.{Added, adding-steps, adding-ends, summand-is}
use Rattle.linear_formula.proofs.Exits.{was_wide, OnErr-at}
use Rattle.linear_formula.proofs.Finishing.{SameSum, sum_same}
use Rattle.linear_formula.proofs.Gathering.{factors_passed}
use Rattle.linear_formula.proofs.Limits.{IsTerm-from_test, Within-from_test}
use Rattle.linear_formula.proofs.Values.{value-combination}
use Rattle.linear_formula.proofs.term.Term.combine_by_column.Goals as goal

pub add_all-requires-clause-limits : goal.add_all-requires-clause-limits
add_all-requires-clause-limits c =
    subst (λ l. AllWithin l) (sym c.parts.ensures.value) (IsTerm-from_test c.index-parts-left.result.1
    c.parts.ensures.kept).within.coefficients

pub loop-left-preserved : goal.loop-left-preserved
loop-left-preserved c =
    let k = IsTerm-from_test c.index-parts-left.result.1 c.parts.ensures.kept in
    let f : FitsSigned w64 c.index-parts-left.result.0 = search rules in
    let g : FitsSigned w128 c.constant.result = search rules in
    let b : (c.loop-left.left - 1) < length c.args.parts.now = omega (arith, c.loop-left.invariant.bound) in
    adding-steps c.args.parts.now (to_z w64 (of_z w64 c.args.constant)) c.loop-left.left (c.loop-left.left - 1) c.loop-left.sums
    c.add_all.new.self c.loop-left.total c.plus_product-total.result c.index-parts-left.result c.loop-left.invariant (omega arith)
    (summand-is c.args.parts.now (c.loop-left.left - 1) c.index-parts-left.result b c.index-parts-left.is) k.within.count
    (c.in_ok-add_all.ensures.parts ∙ ap (λ z. plus_parts z c.parts.result.now c.loop-left.sums.parts) (to_z-of_z f)
    ∙ ap (λ l. plus_parts c.index-parts-left.result.0 l c.loop-left.sums.parts) c.parts.ensures.value) (c.in_ok-add_all.ensures.adds
    ∙ ap (λ l. c.loop-left.sums.adds + length l) c.parts.ensures.value) (c.plus_product-total.ensures.value
    ∙ ap (λ z. exact_value c.loop-left.total +ℤ z) (factors_passed c.index-parts-left.result.0 c.constant.result f g
    ∙ ap (λ z. c.index-parts-left.result.0 *ℤ z) c.constant.ensures.value)) c.plus_product-total.ensures.high
    c.plus_product-total.ensures.low

pub returns-in_err-items-clause-wide : goal.returns-in_err-items-clause-wide
returns-in_err-items-clause-wide c = λ w h.
    let d : Added c.args.parts.now c.args.constant c.loop-left.sums c.loop-left.total = adding-ends c.args.parts.now c.args.constant
    c.loop-left.left c.loop-left.sums c.loop-left.total c.ranges.constant c.loop-left.invariant (omega arith) in
    let p = err_from_is_err_and c.from_residual-in_err-items.result c.from_residual-in_err-items.ensures.1 in
    let was = was_wide c.parts-2.result c.from_residual-in_err-items.result c.in_err-items.field-0.0 p.0 c.in_err-items.was p.1 p.2 w in
    c.parts-2.ensures.wide was (subst (λ l. AllWithin l) (sym d.parts) (Within-from_test (combination c.args.parts.now c.args.constant)
    h).coefficients)

pub returns-clause-value : goal.returns-clause-value
returns-clause-value c =
    let d : Added c.args.parts.now c.args.constant c.loop-left.sums c.loop-left.total = adding-ends c.args.parts.now c.args.constant
    c.loop-left.left c.loop-left.sums c.loop-left.total c.ranges.constant c.loop-left.invariant (omega arith) in
    let f : FitsSigned w128 c.in-Some.constant = search rules in
    let e : SameSum (record { parts = c.in_ok-items.items.items; constant = to_z w128 (of_z w128 c.in-Some.constant) })
    (combination c.args.parts.now c.args.constant) = sum_same c.in_ok-items.items.items (combination c.args.parts.now c.args.constant).parts
    (to_z w128 (of_z w128 c.in-Some.constant)) (combination c.args.parts.now c.args.constant).constant
    (c.in_ok-items.ensures.items ∙ d.parts)
    (to_z-of_z f ∙ c.in-Some.ensures ∙ d.constant) in
    IfOk-weaker c.finished.result _ _ (λ t k. k ∙ e) c.finished.ensures.value

pub returns-clause-law : goal.returns-clause-law
returns-clause-law c =
    let d : Added c.args.parts.now c.args.constant c.loop-left.sums c.loop-left.total = adding-ends c.args.parts.now c.args.constant
    c.loop-left.left c.loop-left.sums c.loop-left.total c.ranges.constant c.loop-left.invariant (omega arith) in
    let f : FitsSigned w128 c.in-Some.constant = search rules in
    let e : SameSum (record { parts = c.in_ok-items.items.items; constant = to_z w128 (of_z w128 c.in-Some.constant) })
    (combination c.args.parts.now c.args.constant) = sum_same c.in_ok-items.items.items (combination c.args.parts.now c.args.constant).parts
    (to_z w128 (of_z w128 c.in-Some.constant)) (combination c.args.parts.now c.args.constant).constant
    (c.in_ok-items.ensures.items ∙ d.parts)
    (to_z-of_z f ∙ c.in-Some.ensures ∙ d.constant) in
    IfOk-weaker c.finished.result _ _ (λ t k v. ap (value_of v) (k ∙ e) ∙ value-combination v c.args.parts.now c.args.constant)
    c.finished.ensures.value

pub returns-clause-wide : goal.returns-clause-wide
returns-clause-wide c = λ w h.
    let d : Added c.args.parts.now c.args.constant c.loop-left.sums c.loop-left.total = adding-ends c.args.parts.now c.args.constant
    c.loop-left.left c.loop-left.sums c.loop-left.total c.ranges.constant c.loop-left.invariant (omega arith) in
    let f : FitsSigned w128 c.in-Some.constant = search rules in
    let e : SameSum (record { parts = c.in_ok-items.items.items; constant = to_z w128 (of_z w128 c.in-Some.constant) })
    (combination c.args.parts.now c.args.constant) = sum_same c.in_ok-items.items.items (combination c.args.parts.now c.args.constant).parts
    (to_z w128 (of_z w128 c.in-Some.constant)) (combination c.args.parts.now c.args.constant).constant
    (c.in_ok-items.ensures.items ∙ d.parts)
    (to_z-of_z f ∙ c.in-Some.ensures ∙ d.constant) in
    OnErr-at c.finished.result _ _ w c.finished.ensures.wide (subst (λ (u : LinearSum). IsTrue (is_within u)) (sym e) h)
