use Rattle.step_tests.proofs.Learned.{must_kept}
use Rattle.step_tests.proofs.learning.keep_must.Goals as goal

pub returns : goal.returns
returns c =
    must_kept c.a_must.ensures c.a_longer_table.ensures c.args.graphs.now.graphs c.args.table.now.summaries _ c.args.parent.now
    c.args.child.now c.args.path.now c.in_ok-copied.copied c.requires.parent c.requires.child c.in_ok-copied.ensures c.in_ok-keep.ensures
