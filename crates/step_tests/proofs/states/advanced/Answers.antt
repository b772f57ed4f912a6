use Rattle.std.proofs.Common.{List, sym, subst}
use Rattle.std.proofs.lemmas.Result.{IfOk-weaker}
use Rattle.std.specs.Prelude.{[]}
use Rattle.summary_form.specs.declared.summary.Summary.{Summary}
use Rattle.step_tests.specs.Ready.{IsReady}
use Rattle.step_tests.proofs.states.advanced.Goals as goal

pub sliced-requires-clause-ready : goal.sliced-requires-clause-ready
sliced-requires-clause-ready c =
    subst (λ (t : List Summary). IsReady c.args.graphs.now.graphs t c.args.state.now) (sym c.in_ok-table.ensures.none) c.requires.ready

pub returns : goal.returns
returns c =
    let gs = c.args.graphs.now.graphs in
    IfOk-weaker c.sliced.result _ (λ _. IsReady gs [] c.sliced.new.state)
    (λ s h. subst (λ (t : List Summary). IsReady gs t c.sliced.new.state) c.in_ok-table.ensures.none h) c.sliced.ensures.ready
