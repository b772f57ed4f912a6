use Rattle.std.proofs.lemmas.Result.{IfOk-weaker}
use Rattle.c_tree.specs.Whole.{program_of}
use Rattle.flow_build.specs.Promises.{AreBounded}
use Rattle.summary_form.specs.ProgramGraphs.{SameArities}
use Rattle.claim_tests.proofs.Arities.{same_arities}
use Rattle.claim_tests.proofs.sources.graphs.Goals as goal

pub returns-clause-arities : goal.returns-clause-arities
returns-clause-arities c =
    let P = program_of c.args.program.now in
    IfOk-weaker c.build.result (λ g. AreBounded P g.graphs) (λ g. SameArities P g.graphs) (λ g h. same_arities P g.graphs h)
    c.build.ensures.bounds
