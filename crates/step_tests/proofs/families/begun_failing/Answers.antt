use Rattle.std.proofs.Common.{sym, subst}
use Rattle.step_tests.specs.Ready.{IsFitting}
use Rattle.step_tests.proofs.families.begun_failing.Goals as goal

pub begun_below-requires-clause-fits : goal.begun_below-requires-clause-fits
begun_below-requires-clause-fits c = subst (IsFitting c.args.graphs.now.graphs) (sym c.in_ok-query.ensures.ok) c.failing.ensures
