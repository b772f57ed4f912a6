use Rattle.std.proofs.lemmas.Result.{IfOk-weaker}
use Rattle.flow_graph.specs.declared.graph.Graph.{Graph}
use Rattle.std.proofs.Common.{List}
use Rattle.query_rules.specs.States.{AllHold}
use Rattle.step_tests.proofs.Readied.{none_hold}
use Rattle.step_tests.proofs.ready.no_table.Goals as goal

pub returns-clause-holds : goal.returns-clause-holds
returns-clause-holds c =
    IfOk-weaker c.with_room.result _ (λ t. (gs : List Graph) → AllHold gs t.summaries) (λ t b gs. none_hold gs t.summaries b.none)
    c.with_room.ensures
