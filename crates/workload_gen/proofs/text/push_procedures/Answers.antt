use Rattle.workload_gen.proofs.Numbered.{left_step, pushed}
use Rattle.workload_gen.proofs.text.push_procedures.Goals as goal

pub loop-index-preserved : goal.loop-index-preserved
loop-index-preserved c =
    let h = rw (left_step c.loop-index.index c.args.number c.loop-index-test.true) at c.loop-index.invariant in
    pushed _ _ _ _ _ c.in_ok-push_procedure.ensures h
