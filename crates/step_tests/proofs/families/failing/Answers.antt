use Rattle.step_tests.proofs.Asking.{all_fit}
use Rattle.step_tests.proofs.families.failing.Goals as goal

pub returns : goal.returns
returns c = all_fit c.args.graphs.now.graphs c.requires.0 _ c.requires.1 c.empty-start.ensures c.empty-end.ensures
