use Rattle.std.proofs.Common.{◌≤◌, ◌++◌, ◌^◌, [], unsigned_abs, arith, refl, sym, subst, to_z, of_z}
use Rattle.std.specs.Int.{w128}
use Rattle.linear_formula.specs.steps.Order.{AllWithin}
use Rattle.linear_formula.specs.Results.{plus_parts}
use Rattle.linear_formula.proofs.Merging.{at, one-begins, one-head, one-steps, one-stops, one-cast, one-ends, cast_same, cast_limit, cast_scaled, fits_scaled}
use Rattle.std.proofs.lemmas.Result.{err_from_is_err_and}
use Rattle.linear_formula.proofs.Exits.{was_wide}
use Rattle.lia_solver.proofs.merge.push_multiples.Goals as goal

pub loop-column-init : goal.loop-column-init
loop-column-init c = one-begins _ _ _ c.requires.order c.requires.limits

pub overflow_mul-multiplier : goal.overflow_mul-multiplier
overflow_mul-multiplier c =
    fits_scaled (to_z w128 (of_z w128 c.args.multiplier)) (at c.args.parts.now c.loop-column.column-index).1
    (cast_limit c.args.multiplier c.requires.multiplier_limit) (one-head _ _ _ _ _ c.loop-column.invariant c.loop-column-test.true)

pub returns-in_err-push_part-clause-wide : goal.returns-in_err-push_part-clause-wide
returns-in_err-push_part-clause-wide c = λ w h.
    let s = c.loop-column.invariant in
    let p = err_from_is_err_and c.from_residual.result c.from_residual.ensures.1 in
    let was = was_wide c.push_part.result c.from_residual.result c.in_err-push_part.field-0.0 p.0 c.in_err-push_part.was p.1 p.2 w in
    let m = to_z w128 (of_z w128 c.args.multiplier) in
    let a = (at c.args.parts.now c.loop-column.column-index).1 in
    let lim : unsigned_abs m ≤ 2 ^ 40 = cast_limit c.args.multiplier c.requires.multiplier_limit in
    let e = cast_scaled m a lim (one-head m c.args.parts.now c.args.out.now.items c.loop-column.out.items c.loop-column.column-index s
    c.loop-column-test.true) in
    one-stops m c.args.parts.now c.args.out.now.items c.loop-column.out.items c.loop-column.column-index _ s c.loop-column-test.true e
    (c.push_part.ensures.wide was) (subst (λ z. AllWithin (c.args.out.now.items ++ plus_parts z c.args.parts.now []))
    (sym (cast_same c.args.multiplier (omega (arith, c.requires.multiplier_limit)))) h)

pub loop-column-preserved : goal.loop-column-preserved
loop-column-preserved c =
    one-steps _ _ _ _ _ _ _ _ c.loop-column.invariant c.loop-column-test.true refl (cast_scaled (to_z w128 (of_z w128 c.args.multiplier))
    (at c.args.parts.now c.loop-column.column-index).1 (cast_limit c.args.multiplier c.requires.multiplier_limit)
    (one-head _ _ _ _ _ c.loop-column.invariant c.loop-column-test.true)) c.in_ok-push_part.ensures.items c.in_ok-push_part.ensures.limit

pub returns-clause-items : goal.returns-clause-items
returns-clause-items c =
    one-ends c.args.multiplier c.args.parts.now c.args.out.now.items c.loop-column.out.items c.loop-column.column-index
    (one-cast c.args.multiplier _ _ _ _ c.requires.multiplier_limit c.loop-column.invariant) (omega arith)

pub returns-clause-limit : goal.returns-clause-limit
returns-clause-limit c = c.loop-column.invariant.kept
