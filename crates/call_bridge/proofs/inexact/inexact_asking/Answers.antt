use Rattle.std.proofs.Common.{◌≡◌, IfOk, subst}
use Rattle.linear_formula.specs.declared.question.Question.TheVariants as asks
use Rattle.shadow_elim.specs.Projection.{cube_of}
use Rattle.flow_graph.specs.Calls.{CallSite}
use Rattle.call_bridge.specs.Asked.{call_rows, caller_columns}
use Rattle.call_bridge.proofs.inexact.inexact_asking.Goals as goal

pub returns-clause-question : goal.returns-clause-question
returns-clause-question c =
    subst (λ (s : CallSite). IfOk c.asking_limit.result (λ kept. kept.question ≡ asks.Eliminate
    (cube_of (call_rows c.args.exit s c.args.source.now.atoms c.args.target.now.atoms))
    (caller_columns (call_rows c.args.exit s c.args.source.now.atoms c.args.target.now.atoms)))) c.of.ensures
    c.asking_limit.ensures.question
