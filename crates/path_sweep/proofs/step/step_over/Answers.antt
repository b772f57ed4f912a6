use Rattle.std.proofs.Common.{◌≡◌, Some, List, sym, subst}
use Rattle.std.specs.Prelude.{slice_get}
use Rattle.flow_graph.specs.declared.graph.Graph.{Graph}
use Rattle.path_sweep.proofs.Adding.{entry_step, entering, list_at}
use Rattle.path_sweep.proofs.step.step_over.Goals as goal

pub returns-in_ok-next-in-Entering-clause-step : goal.returns-in_ok-next-in-Entering-clause-step
returns-in_ok-next-in-Entering-clause-step c = λ stage h.
    let en = entering c.args.graphs.now.graphs c.args.levels.now c.args.frame.now stage c.in-Entering.is h in
    entry_step c.args.graphs.now.graphs c.args.levels.now c.args.frame.now c.in_ok-next-in-Entering.next c.args.symbols c.args.edge
    c.bare.result
    c.index-graphs-frame.result stage c.in-Entering.is c.requires.follows
    (subst (λ (gs : List Graph). slice_get gs c.args.frame.now.proc ≡ Some c.index-graphs-frame.result) c.as_slice-graphs.ensures
    (list_at c.as_slice-graphs.result.now c.args.graphs.now.graphs c.args.frame.now.proc c.index-graphs-frame.result en.graph
    (sym c.as_slice-graphs.ensures) en.at c.index-graphs-frame.is)) c.in_ok-next-in-Entering.ensures c.bare.ensures.frame
    c.bare.ensures.rows c.bare.ensures.read c.bare.ensures.symbols h
