use Rattle.std.proofs.Common.{List, sym, subst}
use Rattle.std.proofs.lemmas.Result.{IfOk-weaker}
use Rattle.std.specs.Prelude.{[]}
use Rattle.summary_form.specs.declared.summary.Summary.{Summary}
use Rattle.step_tests.specs.Ready.{IsFitting, IsReady}
use Rattle.step_tests.proofs.states.begun_of.Goals as goal

pub begun_below-requires-clause-fits : goal.begun_below-requires-clause-fits
begun_below-requires-clause-fits c = subst (IsFitting c.args.graphs.now.graphs) (sym c.in_ok-query.ensures.ok) c.in_ok-asked_query.ensures

pub begun_below-requires-clause-holds : goal.begun_below-requires-clause-holds
begun_below-requires-clause-holds c = c.in_ok-table.ensures.holds c.args.graphs.now.graphs

pub returns : goal.returns
returns c =
    let gs = c.args.graphs.now.graphs in
    IfOk-weaker c.begun_below.result _ (λ s. IsReady gs [] s)
    (λ s h. subst (λ (t : List Summary). IsReady gs t s) c.in_ok-table.ensures.none h) c.begun_below.ensures
