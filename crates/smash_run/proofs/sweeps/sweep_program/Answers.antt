use Rattle.std.proofs.Common.{◌≡◌, ℕ, ap, length, rules, subst, sym}
use Rattle.std.specs.Prelude.{Some, slice_get}
use Rattle.std.proofs.lemmas.Result.{IfOk-weaker}
use Rattle.c_tree.specs.Whole.{program_of}
use Rattle.flow_graph.specs.Columns.{AreAllValues}
use Rattle.flow_graph.specs.declared.graph.Graph.{Graph}
use Rattle.path_sweep.specs.Ends.{ComesWhole, EndsSo}
use Rattle.smash_run.specs.steps.Handing.{handed_in}
use Rattle.smash_run.proofs.Judging.{main_graph}
use Rattle.smash_run.proofs.Sweeping.{swept_is}
use Rattle.smash_run.proofs.sweeps.sweep_program.Goals as goal

pub sweep-requires-clause-main : goal.sweep-requires-clause-main
sweep-requires-clause-main c =
    let program = c.args.program.now in
    let w = main_graph (program_of program) c.in_ok-graphs.graphs.value.graphs program.well_formed c.in_ok-graphs.ensures.bounds in
    subst (λ gs. (x : Graph) × (slice_get gs program.main ≡ Some x) × (x.params ≡ 0)) (sym (ap (λ h. h.graphs) c.deref.ensures))
    (w.graph, w.at, w.no_params)

pub returns : goal.returns
returns c =
    let program = c.args.program.now in
    let all : c.len-count.result ≡ length program.asserts.items = search rules in
    IfOk-weaker c.swept_reply.result _ _
    (λ a t. swept_is (program_of program) program.well_formed (subst AreAllValues c.deref-2.ensures.value c.are_values.ensures)
    c.in_ok-graphs.graphs.value.graphs c.in_ok-graphs.ensures c.args.edges c.in_ok-paths.paths
    (subst (λ gs. EndsSo gs program.main (length program.asserts.items) c.args.edges c.in_ok-paths.paths)
    (ap (λ h. h.graphs) c.deref.ensures) (subst (λ (n : ℕ). EndsSo c.deref.result.now.graphs program.main n c.args.edges
    c.in_ok-paths.paths) all c.in_ok-paths.ensures.ends))
    (subst (λ gs. ComesWhole gs program.main c.args.edges c.in_ok-paths.paths.end) (ap (λ h. h.graphs) c.deref.ensures)
    c.in_ok-paths.ensures.whole) c.in_ok-paths.ensures.right a.status a.text.items (handed_in a) t)
    c.swept_reply.ensures
