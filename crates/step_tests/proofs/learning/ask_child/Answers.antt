use Rattle.std.proofs.Common.{sym, subst, ◌∙◌}
use Rattle.step_tests.specs.Ready.{IsFitting}
use Rattle.step_tests.proofs.learning.ask_child.Goals as goal

pub begun_below-requires-clause-fits : goal.begun_below-requires-clause-fits
begun_below-requires-clause-fits c =
    subst (IsFitting c.args.graphs.now.graphs) (sym (c.in_ok-query.ensures.ok ∙ c.in_ok-copied.ensures))
    (c.requires.fitting c.args.asked _ c.in_ok-entry.ensures)

pub begun_below-requires-clause-holds : goal.begun_below-requires-clause-holds
begun_below-requires-clause-holds c = c.requires.analysed.grounded.table_holds
