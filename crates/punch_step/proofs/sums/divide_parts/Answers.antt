use Rattle.std.proofs.Common.{FitsSigned, arith, rules}
use Rattle.std.specs.Int.{w128}
use Rattle.linear_formula.proofs.Merging.{at}
use Rattle.shadow_elim.proofs.Dividing.{divided_parts-more, quotient_is}
use Rattle.punch_step.proofs.sums.divide_parts.Goals as goal

pub loop-column-preserved : goal.loop-column-preserved
loop-column-preserved c =
    let f : FitsSigned w128 (at c.args.parts.now c.loop-column.column-index).1 = search rules in
    let e = quotient_is (at c.args.parts.now c.loop-column.column-index).1 c.div_euclid.result c.from.result c.args.divisor f (omega arith)
    c.from.ensures c.div_euclid.ensures in
    divided_parts-more c.args.divisor c.loop-column.column-index c.args.parts.now _ _ c.loop-column.items.items _ (omega arith) e
    c.loop-column.invariant c.in_ok-push.ensures.items
