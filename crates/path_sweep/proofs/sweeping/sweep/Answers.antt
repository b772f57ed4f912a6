use Rattle.std.proofs.lemmas.Result.{IfOk-weaker}
use Rattle.path_sweep.proofs.Answered.{comes_whole, right_limit}
use Rattle.path_sweep.proofs.sweeping.sweep.Goals as goal

pub returns-clause-whole : goal.returns-clause-whole
returns-clause-whole c =
    IfOk-weaker c.count_paths.result _ _ (comes_whole c.args.graphs.now.graphs c.args.main c.args.asserts c.args.edges)
    c.count_paths.ensures

pub returns-clause-right : goal.returns-clause-right
returns-clause-right c =
    IfOk-weaker c.count_paths.result _ _ (right_limit c.args.graphs.now.graphs c.args.main c.args.asserts c.args.edges)
    c.count_paths.ensures
