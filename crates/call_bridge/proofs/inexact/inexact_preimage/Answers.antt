use Rattle.std.proofs.Common.{◌≡◌, ◌∙◌, IfOk, ap, subst}
use Rattle.linear_formula.specs.declared.question.Question.TheVariants as asks
use Rattle.shadow_elim.specs.Projection.{cube_of}
use Rattle.flow_graph.specs.Calls.{CallSite}
use Rattle.call_bridge.specs.Musts.{must_preimage, must_rows, symbol_columns}
use Rattle.call_bridge.proofs.inexact.inexact_preimage.Goals as goal

pub preimage_limit-requires : goal.preimage_limit-requires
preimage_limit-requires c = (
  c.requires.pair.0,
  ap (λ (s : CallSite). must_preimage c.args.must.now s c.args.target.now.atoms) c.of.ensures ∙ c.requires.pair.1,
)

pub returns-clause-question : goal.returns-clause-question
returns-clause-question c =
    subst (λ (s : CallSite). IfOk c.preimage_limit.result (λ kept. kept.question ≡ asks.Eliminate
    (cube_of (must_rows c.args.must.now s c.args.target.now.atoms))
    (symbol_columns (must_rows c.args.must.now s c.args.target.now.atoms)))) c.of.ensures c.preimage_limit.ensures.question
