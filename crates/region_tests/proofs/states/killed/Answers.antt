use Rattle.region_tests.proofs.ReturningGraph.{may_kill}
use Rattle.region_tests.proofs.states.killed.Goals as goal

pub apply-requires : goal.apply-requires
apply-requires c = may_kill c.args.graphs.now.graphs c.in_ok-state.state _ c.requires c.in_ok-state.ensures c.in_ok-entry_kill.ensures
