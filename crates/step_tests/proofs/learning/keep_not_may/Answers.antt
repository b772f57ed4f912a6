use Rattle.step_tests.proofs.Learned.{not_may_kept}
use Rattle.step_tests.proofs.learning.keep_not_may.Goals as goal

pub returns : goal.returns
returns c =
    not_may_kept c.no_run.ensures c.a_longer_table.ensures c.args.graphs.now.graphs c.args.table.now.summaries _ c.args.parent.now
    c.args.child.now c.in_ok-copied.copied c.requires.parent c.requires.child c.in_ok-leans_on_none.ensures c.in_ok-copied.ensures
    c.in_ok-keep.ensures
