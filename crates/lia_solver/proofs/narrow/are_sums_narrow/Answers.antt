use Rattle.std.proofs.Common.{◌∙◌, sym}
use Rattle.lia_solver.proofs.Narrowing.{with-more, none-pair, least-within}
use Rattle.lia_solver.proofs.narrow.are_sums_narrow.Goals as goal
use Rattle.lia_solver.proofs.narrow.are_sums_narrow.Goals.{else-is_lower-via-then-is_lower+else-not-is_least_narrow, else-is_lower-via-else-is_lower}

pub loop-lower-preserved : goal.loop-lower-preserved
loop-lower-preserved c =
    let test = c.is_lower.ensures in
    elim c.else-is_lower.branch [
      | else-is_lower-via-then-is_lower+else-not-is_least_narrow w ↦ with-more c.args.column c.args.table.now c.args.upper
          c.loop-lower.lower c.loop-lower.invariant
          (λ p. least-within c.args.column c.args.table.now c.args.upper c.loop-lower.lower
          (w.is_least_narrow.ensures.0 w.if-not-is_least_narrow.false))
      | else-is_lower-via-else-is_lower w ↦ with-more c.args.column c.args.table.now c.args.upper c.loop-lower.lower
          c.loop-lower.invariant (none-pair c.args.column c.args.table.now c.args.upper c.loop-lower.lower
          (sym test ∙ w.if-is_lower.false))
    ]
