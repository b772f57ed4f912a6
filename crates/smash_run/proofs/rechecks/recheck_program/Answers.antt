use Rattle.std.proofs.Common.{◌≡◌, Some, ap, refl, subst, sym}
use Rattle.std.specs.Prelude.{slice_get}
use Rattle.std.proofs.lemmas.Option.{slice_get_read}
use Rattle.std.proofs.lemmas.Result.{IfOk-weaker}
use mathlib.Core.Logic.{inr}
use Rattle.c_tree.specs.Whole.{program_of}
use Rattle.flow_build.specs.Lowered.{AreLowered}
use Rattle.flow_build.specs.Promises.{AreBounded}
use Rattle.flow_graph.specs.ProgramGraphs.{SameRuns}
use Rattle.proof_bundle.specs.Claims.{pure_of}
use Rattle.summary_form.specs.ProgramGraphs.{SameArities}
use Rattle.smash_run.specs.steps.Handing.{handed_in}
use Rattle.smash_run.proofs.Graphs.{same_arities}
use Rattle.smash_run.proofs.Rechecking.{rechecked}
use Rattle.smash_run.proofs.rechecks.recheck_program.Goals as goal

pub returns : goal.returns
returns c =
    let program = c.args.program.now in
    let id = c.args.bundle.now.id in
    let place = c.in-Some.place.now in
    let e = c.in-Some.ensures.lookup in
    let gs = c.deref-2.result.now.graphs in
    let same = sym (ap (λ h. h.graphs) c.deref-2.ensures) in
    let are = c.in_ok-graphs.ensures in
    let there = subst (λ xs. slice_get xs id ≡ Some place) c.deref.ensures.value
    (slice_get_read c.deref.result.now _ id place refl e.3.0 e.1) in
    IfOk-weaker c.checked_reply.result _ _
    (λ a t. inr (rechecked (program_of program) (pure_of c.args.bundle.now) gs (subst (SameRuns (program_of program)) same are.runs)
    (subst (SameArities (program_of program)) same (same_arities (program_of program) c.in_ok-graphs.graphs.value.graphs are.bounds))
    (subst (AreBounded (program_of program)) same are.bounds)
    (subst (AreLowered (program_of program)) same are.built) place there a.status a.text.items (handed_in a)
    c.in_ok-checked.checked c.in_ok-checked.ensures.right c.in_ok-checked.ensures.wrong
    c.in_ok-checked.ensures.sound t))
    c.checked_reply.ensures
