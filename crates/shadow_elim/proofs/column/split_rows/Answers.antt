use Rattle.std.proofs.Common.{FitsSigned, rules}
use Rattle.std.specs.Int.{w128}
use Rattle.shadow_elim.proofs.Splitting.{positive_from, negative_from, not_positive_from, not_negative_from, split-upper, split-lower, split-free}
use Rattle.shadow_elim.proofs.column.split_rows.Goals as goal

pub loop-row-preserved-in-Continue-1 : goal.loop-row-preserved-in-Continue-1
loop-row-preserved-in-Continue-1 c =
    let f : FitsSigned w128 c.coefficient-coefficient.result = search rules in
    split-upper c.args.column c.loop-row.yielded c.loop-row.uppers.items c.loop-row.lowers.items c.loop-row.free.items c.in-Some.row
    c.coefficient-coefficient.result c.push.new.self.items c.loop-row.invariant c.coefficient-coefficient.ensures.kept
    c.coefficient-coefficient.ensures.value (positive_from c.coefficient-coefficient.result f c.if-coefficient-gt0.true)
    c.in_ok-push.ensures.items

pub loop-row-preserved-in-Continue-branch-2 : goal.loop-row-preserved-in-Continue-branch-2
loop-row-preserved-in-Continue-branch-2 c =
    let f : FitsSigned w128 c.coefficient-coefficient.result = search rules in
    split-lower c.args.column c.loop-row.yielded c.loop-row.uppers.items c.loop-row.lowers.items c.loop-row.free.items c.in-Some.row
    c.coefficient-coefficient.result c.push-then-coefficient-lt0.new.self.items c.loop-row.invariant c.coefficient-coefficient.ensures.kept
    c.coefficient-coefficient.ensures.value (negative_from c.coefficient-coefficient.result f c.if-coefficient-lt0.true)
    c.in_ok-push-2.ensures.items

pub loop-row-preserved : goal.loop-row-preserved
loop-row-preserved c =
    let f : FitsSigned w128 c.coefficient-coefficient.result = search rules in
    split-free c.args.column c.loop-row.yielded c.loop-row.uppers.items c.loop-row.lowers.items c.loop-row.free.items c.in-Some.row
    c.coefficient-coefficient.result c.push-else-coefficient-lt0.new.self.items c.loop-row.invariant c.coefficient-coefficient.ensures.kept
    c.coefficient-coefficient.ensures.value (not_positive_from c.coefficient-coefficient.result f c.if-coefficient-gt0.false)
    (not_negative_from c.coefficient-coefficient.result f c.if-coefficient-lt0.false) c.in_ok-push-3.ensures.items
