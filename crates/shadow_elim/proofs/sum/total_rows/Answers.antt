use Rattle.std.proofs.Common.{◌∙◌, arith}
use Rattle.shadow_elim.specs.Sums.{IsFirstWide, IsWideSum}
use Rattle.shadow_elim.proofs.Projecting.{passed-on}
use Rattle.shadow_elim.proofs.Summing.{first-passed, first-met, rows-step, within-step}
use Rattle.shadow_elim.proofs.sum.total_rows.Goals as goal

pub returns-in_err-term-clause-limit : goal.returns-in_err-term-clause-limit
returns-in_err-term-clause-limit c =
    let s = c.sum-item.result in
    passed-on (IsWideSum s) (IsFirstWide c.args.sums.now) c.from_residual-in_err-term.result c.in_err-term.field-0.0
    c.from_residual-in_err-term.ensures.1 (λ kept w. record {
      sum = s;
      first = c.loop-sum.invariant.first ∙ first-met c.args.sums.now c.loop-sum.sum-index s (omega arith) c.sum-item.is w.wide;
      same = w.same;
    }) c.in_err-term.ensures.limit

pub loop-sum-preserved : goal.loop-sum-preserved
loop-sum-preserved c = record {
  rows = rows-step c.args.sums.now c.loop-sum.sum-index c.sum-item.result c.in_ok-term.term c.loop-sum.rows c.push.new.self (omega arith)
      c.sum-item.is c.in_ok-term.ensures.value c.loop-sum.invariant.rows c.in_ok-push.ensures;
  first = c.loop-sum.invariant.first ∙ first-passed c.args.sums.now c.loop-sum.sum-index c.sum-item.result (omega arith) c.sum-item.is
      (within-step c.sum-item.result c.in_ok-term.term c.in_ok-term.ensures.value c.in_ok-term.ensures.kept);
}
