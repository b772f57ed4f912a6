use Rattle.step_tests.proofs.Asking.{start_fits}
use Rattle.step_tests.proofs.states.asked_query.Goals as goal

pub returns : goal.returns
returns c =
    start_fits c.args.graphs.now.graphs c.requires.0 _ c.requires.1 c.requires.2 c.in_ok-start.ensures.names c.in_ok-start.ensures.terms
    c.empty.ensures
