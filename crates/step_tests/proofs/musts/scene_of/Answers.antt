use Rattle.step_tests.proofs.musts.scene_of.Goals as goal

pub invariant_of-result : goal.invariant_of-result
invariant_of-result c = record {
  can = record {
    a_call = c.in_ok-call.ensures.call;
    leaves = c.in_ok-call.ensures.leaves;
    slots = c.in_ok-call.ensures.slots;
    start = c.any_run.ensures;
    origin = c.origin.ensures;
  };
}
