use Rattle.std.proofs.Common.{subst}
use Rattle.std.proofs.lemmas.Result.{IfOk-weaker}
use Rattle.c_tree.specs.Whole.{program_of}
use Rattle.flow_graph.specs.Columns.{AreAllValues}
use Rattle.smash_run.proofs.Graphs.{hold_of_graphs}
use Rattle.smash_run.proofs.Judging.{begun_empty, main_there}
use Rattle.smash_run.proofs.analysis.begun.Goals as goal

pub begin_with-requires-clause-main : goal.begin_with-requires-clause-main
begin_with-requires-clause-main c =
    let program = c.args.program.now in
    main_there (program_of program) c.args.graphs.value.graphs program.well_formed c.requires.graphs.bounds

pub begin_with-requires-clause-hold : goal.begin_with-requires-clause-hold
begin_with-requires-clause-hold c =
    let program = c.args.program.now in
    hold_of_graphs (program_of program) c.args.graphs.value.graphs program.well_formed
    (subst AreAllValues c.deref.ensures.value c.are_values.ensures) c.requires.graphs _ c.requires.kept.hold

pub returns-clause-begun : goal.returns-clause-begun
returns-clause-begun c = IfOk-weaker c.begin_with.result _ _ (λ b h. begun_empty _ _ _ _ _ b h) c.begin_with.ensures
