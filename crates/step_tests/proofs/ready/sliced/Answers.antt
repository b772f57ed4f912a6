use Rattle.std.proofs.lemmas.Result.{IfOk-weaker}
use Rattle.step_tests.specs.Ready.{IsEnded, IsReady}
use Rattle.step_tests.proofs.Readied.{slice_ended, slice_ready}
use Rattle.step_tests.proofs.ready.sliced.Goals as goal

pub returns-clause-ready : goal.returns-clause-ready
returns-clause-ready c =
    let gs = c.args.graphs.now.graphs in
    let table = c.args.table.now.summaries in
    IfOk-weaker c.slice.result _ (λ _. IsReady gs table c.slice.new.state)
    (λ s f. slice_ready c.a_longer_state.ensures.steps c.an_asked_query.ensures gs table c.args.left c.args.at_most _ _ s c.requires.ready
    f)
    c.slice.ensures

pub returns-clause-ended : goal.returns-clause-ended
returns-clause-ended c =
    let gs = c.args.graphs.now.graphs in
    let table = c.args.table.now.summaries in
    IfOk-weaker c.slice.result _ (λ s. IsEnded gs table c.slice.new.state s.end)
    (λ s f. slice_ended c.a_longer_state.ensures.steps c.an_asked_query.ensures gs table c.args.left c.args.at_most _ _ s c.requires.ready
    f)
    c.slice.ensures
