use Rattle.smash_run.proofs.Judging.{one_more}
use Rattle.smash_run.proofs.analysis.verdicts_of.Goals as goal

pub loop-root-preserved : goal.loop-root-preserved
loop-root-preserved c =
    one_more c.args.board.now c.loop-root.root c.loop-root.verdicts.items c.push.new.self.items c.in_ok-verdict.field-0
    c.loop-root.invariant c.in_ok-verdict.ensures c.in_ok-push.ensures.items
