use Rattle.std.proofs.Common.{◌<◌, ◌≤◌, length, FitsSigned, rules, arith, sym, ◌∙◌}
use Rattle.std.specs.Int.{w128}
use Rattle.shadow_elim.proofs.Holding.{rank-free, rank-named, rank-past, zero_from, not_zero_from}
use Rattle.shadow_elim.proofs.lists.rank.Goals as goal

pub loop-column-preserved : goal.loop-column-preserved
loop-column-preserved c =
    let f : FitsSigned w128 c.coefficient.result = search rules in
    let h : c.loop-column.column-index < length c.args.columns.now = omega arith in
    record {
      left = omega arith;
      rank = sym (rank-free c.args.columns.now c.loop-column.column-index c.args.term.now h
          (zero_from _ c.args.term.now c.coefficient.result f c.if-coefficient-ne0.false c.coefficient.ensures.value))
          ∙ c.loop-column.invariant.rank;
    }

pub returns-then-coefficient-ne0 : goal.returns-then-coefficient-ne0
returns-then-coefficient-ne0 c =
    let h : c.loop-column.column-index < length c.args.columns.now = omega arith in
    rank-named c.args.columns.now c.loop-column.column-index c.loop-column.left c.args.term.now h c.loop-column.invariant.left
    (not_zero_from _ c.args.term.now c.coefficient.result c.if-coefficient-ne0.true c.coefficient.ensures.value)
    ∙ c.loop-column.invariant.rank

pub returns : goal.returns
returns c =
    let h : length c.args.columns.now ≤ c.loop-column.column-index = omega arith in
    rank-past c.args.columns.now c.loop-column.column-index c.args.term.now h ∙ c.loop-column.invariant.rank
