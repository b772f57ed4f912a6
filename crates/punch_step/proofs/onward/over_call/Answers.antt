use Rattle.std.proofs.Common.{◌≡◌, Some, refl, subst}
use Rattle.std.specs.Prelude.{slice_get}
use Rattle.std.proofs.lemmas.Option.{slice_get_read}
use Rattle.flow_graph.proofs.Slots.{edges_name_slots}
use Rattle.punch_step.proofs.onward.over_call.Goals as goal

pub extend_must-requires-clause-slots : goal.extend_must-requires-clause-slots
extend_must-requires-clause-slots c =
    let e = c.in-Some.ensures.lookup in
    let call = c.in-Some.call.now in
    edges_name_slots c.args.graph.now c.args.place call (subst (λ xs. slice_get xs c.args.place ≡ Some call) c.as_slice.ensures
    (slice_get_read c.as_slice.result.now _ c.args.place call refl e.3.0 e.1))
