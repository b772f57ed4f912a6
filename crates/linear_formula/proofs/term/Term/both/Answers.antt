use Rattle.std.proofs.Common.{◌+ℤ◌, ◌*ℤ◌, to_z, of_z, arith, sym, subst, ap, ◌∙◌}
use Rattle.std.specs.Prelude.{IsTrue}
use Rattle.std.specs.Int.{w128}
use Rattle.std.proofs.lemmas.Result.{err_from_is_err_and, IfOk-weaker}
use Rattle.linear_formula.specs.LinearSum.{LinearSum, is_within}
use Rattle.linear_formula.specs.steps.Order.{InOrder, AllWithin}
use Rattle.linear_formula.specs.Results.{plus_both}
use Rattle.linear_formula.proofs.Exits.{was_wide, OnErr-at}
use Rattle.linear_formula.proofs.Fronts.{both_left}
use Rattle.linear_formula.proofs.Limits.{IsTerm-from_test, Within-from_test}
use Rattle.linear_formula.proofs.Order.{InOrder-plus_parts}
use Rattle.linear_formula.proofs.Merging.{cast_same}
use Rattle.linear_formula.proofs.Finishing.{fits_scaled_constant, fits_both_constants, both_cast, both_parts_same, sum_same, constant_limit}
use Rattle.linear_formula.proofs.term.Term.both.Goals as goal

pub merged-requires-clause-left_order : goal.merged-requires-clause-left_order
merged-requires-clause-left_order c =
    subst (λ l. InOrder 0 l) (sym c.parts.ensures.value) (IsTerm-from_test c.args.left.now c.parts.ensures.kept).order

pub merged-requires-clause-left_limits : goal.merged-requires-clause-left_limits
merged-requires-clause-left_limits c =
    subst (λ l. AllWithin l) (sym c.parts.ensures.value) (IsTerm-from_test c.args.left.now c.parts.ensures.kept).within.coefficients

pub returns-in_err-parts-clause-wide : goal.returns-in_err-parts-clause-wide
returns-in_err-parts-clause-wide c = λ w h.
    let p = err_from_is_err_and c.from_residual.result c.from_residual.ensures.1 in
    let was = was_wide c.merged.result c.from_residual.result c.in_err-parts.field-0.0 p.0 c.in_err-parts.was p.1 p.2 w in
    let e = both_parts_same c.args.first (to_z w128 (of_z w128 c.args.first)) c.args.second (to_z w128 (of_z w128 c.args.second))
    c.args.left.now.parts c.parts.result.now c.args.right.now (cast_same c.args.first (omega (arith, c.requires.first_limit)))
    (cast_same c.args.second (omega (arith, c.requires.second_limit))) c.parts.ensures.value in
    c.merged.ensures.wide was
    (subst (λ l. AllWithin l) (sym e)
    (Within-from_test (plus_both c.args.first c.args.left.now c.args.second
    (record { parts = c.args.right.now; constant = c.args.right_constant }))
    h).coefficients)

pub overflow_mul-first : goal.overflow_mul-first
overflow_mul-first c =
    fits_scaled_constant c.args.first c.constant.result c.requires.first_limit (constant_limit c.args.left.now c.constant.result
    c.constant.ensures.value c.constant.ensures.kept)

pub overflow_mul-second : goal.overflow_mul-second
overflow_mul-second c =
    fits_scaled_constant c.args.second c.args.right_constant c.requires.second_limit c.requires.constant_limit

pub overflow_add-first : goal.overflow_add-first
overflow_add-first c =
    fits_both_constants c.args.first c.constant.result c.args.second c.args.right_constant c.requires.first_limit
    (constant_limit c.args.left.now c.constant.result c.constant.ensures.value c.constant.ensures.kept) c.requires.second_limit
    c.requires.constant_limit

pub finished-requires-clause-order : goal.finished-requires-clause-order
finished-requires-clause-order c =
    let o = (IsTerm-from_test c.args.left.now c.parts.ensures.kept).order in
    let e = both_parts_same c.args.first (to_z w128 (of_z w128 c.args.first)) c.args.second (to_z w128 (of_z w128 c.args.second))
    c.args.left.now.parts c.parts.result.now c.args.right.now (cast_same c.args.first (omega (arith, c.requires.first_limit)))
    (cast_same c.args.second (omega (arith, c.requires.second_limit))) c.parts.ensures.value in
    subst (λ l. InOrder 0 l) (sym (c.in_ok-parts.ensures.items ∙ e)) (InOrder-plus_parts 0 c.args.first c.args.left.now.parts _ o
    (InOrder-plus_parts 0 c.args.second c.args.right.now _ c.requires.order tt))

pub returns-clause-value : goal.returns-clause-value
returns-clause-value c =
    IfOk-weaker c.finished.result _ _ (λ t k. k ∙ sum_same c.in_ok-parts.parts.items (both_left c.args.first c.args.left.now.parts
    c.args.second c.args.right.now) _ ((c.args.first *ℤ c.args.left.now.constant) +ℤ (c.args.second *ℤ c.args.right_constant))
    (c.in_ok-parts.ensures.items ∙ both_parts_same c.args.first (to_z w128 (of_z w128 c.args.first)) c.args.second
    (to_z w128 (of_z w128 c.args.second)) c.args.left.now.parts c.parts.result.now c.args.right.now
    (cast_same c.args.first (omega (arith, c.requires.first_limit))) (cast_same c.args.second (omega (arith, c.requires.second_limit)))
    c.parts.ensures.value) (both_cast c.args.first c.constant.result c.args.second c.args.right_constant c.requires.first_limit
    (constant_limit c.args.left.now c.constant.result c.constant.ensures.value c.constant.ensures.kept) c.requires.second_limit
    c.requires.constant_limit ∙ ap (λ z. (c.args.first *ℤ z) +ℤ (c.args.second *ℤ c.args.right_constant)) c.constant.ensures.value))
    c.finished.ensures.value

pub returns-clause-wide : goal.returns-clause-wide
returns-clause-wide c = λ w h.
    OnErr-at c.finished.result _ _ w c.finished.ensures.wide (subst (λ (u : LinearSum). IsTrue (is_within u))
    (sym (sum_same c.in_ok-parts.parts.items (both_left c.args.first c.args.left.now.parts c.args.second c.args.right.now) _
    ((c.args.first *ℤ c.args.left.now.constant) +ℤ (c.args.second *ℤ c.args.right_constant)) (c.in_ok-parts.ensures.items ∙ both_parts_same
    c.args.first (to_z w128 (of_z w128 c.args.first)) c.args.second (to_z w128 (of_z w128 c.args.second)) c.args.left.now.parts
    c.parts.result.now c.args.right.now (cast_same c.args.first (omega (arith, c.requires.first_limit)))
    (cast_same c.args.second (omega (arith, c.requires.second_limit))) c.parts.ensures.value) (both_cast c.args.first c.constant.result
    c.args.second c.args.right_constant c.requires.first_limit (constant_limit c.args.left.now c.constant.result c.constant.ensures.value
    c.constant.ensures.kept) c.requires.second_limit c.requires.constant_limit ∙ ap (λ z. (c.args.first *ℤ z) +ℤ
    (c.args.second *ℤ c.args.right_constant)) c.constant.ensures.value))) h)
