use Rattle.std.proofs.Common.{◌≡◌, Some, refl, subst}
use Rattle.std.specs.Prelude.{slice_get}
use Rattle.std.proofs.lemmas.Option.{slice_get_read}
use Rattle.flow_graph.proofs.Slots.{edges_name_slots}
use Rattle.punch_step.proofs.onward.over_plain.Goals as goal

pub extend-requires-clause-slots : goal.extend-requires-clause-slots
extend-requires-clause-slots c =
    let e = c.in-Some.ensures.lookup in
    let edge = c.in-Some.edge.now in
    edges_name_slots c.args.graph.now c.args.place edge (subst (λ xs. slice_get xs c.args.place ≡ Some edge) c.as_slice.ensures
    (slice_get_read c.as_slice.result.now _ c.args.place edge refl e.3.0 e.1))
