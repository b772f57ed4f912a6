use Rattle.std.proofs.Common.{◌≡◌, arith, rules, ◌∙◌, to_z, of_z, to_z-of_z, FitsSigned}
use Rattle.std.specs.Int.{w64, w128}
use Rattle.linear_formula.specs.LinearSum.{valuation}
use Rattle.linear_formula.proofs.Merging.{at}
use Rattle.linear_formula.proofs.Finishing.{AllWithin-at}
use Rattle.linear_formula.proofs.Evaluating.{evaluated-steps, fits_term}
use Rattle.lia_solver.proofs.bounds.value.Goals as goal

pub overflow_mul-sum : goal.overflow_mul-sum
overflow_mul-sum c =
    let f : FitsSigned w64 c.value.result = search rules in
    let e : c.from.result ≡ c.value.result = c.from.ensures ∙ to_z-of_z f in
    fits_term (at c.args.parts.now c.loop-column.column-index).1 c.from.result c.value.result
    (AllWithin-at c.args.parts.now c.loop-column.column-index (omega arith) c.requires.limits) f e

pub overflow_add-sum : goal.overflow_add-sum
overflow_add-sum c =
    let f : FitsSigned w64 c.value.result = search rules in
    let e : c.from.result ≡ c.value.result = c.from.ensures ∙ to_z-of_z f in
    let t = evaluated-steps (valuation c.args.at.now) (to_z w128 (of_z w128 c.args.constant)) c.args.parts.now
    (to_z w128 c.loop-column.sum-bits) c.from.result c.value.result c.loop-column.column-index c.loop-column.invariant (omega arith)
    c.requires.count c.requires.limits f e c.value.ensures in
    t.fits

pub loop-column-preserved : goal.loop-column-preserved
loop-column-preserved c =
    let f : FitsSigned w64 c.value.result = search rules in
    let e : c.from.result ≡ c.value.result = c.from.ensures ∙ to_z-of_z f in
    let t = evaluated-steps (valuation c.args.at.now) (to_z w128 (of_z w128 c.args.constant)) c.args.parts.now
    (to_z w128 c.loop-column.sum-bits) c.from.result c.value.result c.loop-column.column-index c.loop-column.invariant (omega arith)
    c.requires.count c.requires.limits f e c.value.ensures in
    t.next
