use Rattle.std.proofs.Common.{◌∙◌, sym}
use Rattle.lia_solver.proofs.Narrowing.{below-more, none-with}
use Rattle.lia_solver.proofs.narrow.are_all_sums_narrow.Goals as goal
use Rattle.lia_solver.proofs.narrow.are_all_sums_narrow.Goals.{else-is_upper-via-then-is_upper+else-not-are_sums_narrow, else-is_upper-via-else-is_upper}

pub loop-upper-preserved : goal.loop-upper-preserved
loop-upper-preserved c =
    let test = c.is_upper.ensures in
    elim c.else-is_upper.branch [
      | else-is_upper-via-then-is_upper+else-not-are_sums_narrow w ↦ below-more c.args.column c.args.table.now c.loop-upper.upper
          c.loop-upper.invariant (w.are_sums_narrow.ensures.narrow w.if-not-are_sums_narrow.false)
      | else-is_upper-via-else-is_upper w ↦ below-more c.args.column c.args.table.now c.loop-upper.upper c.loop-upper.invariant
          (none-with c.args.column c.args.table.now c.loop-upper.upper (sym test ∙ w.if-is_upper.false))
    ]
