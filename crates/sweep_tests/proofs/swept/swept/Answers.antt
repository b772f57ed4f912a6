use Rattle.std.proofs.Common.{◌≡◌, List, Some, slice_get, subst}
use Rattle.flow_graph.specs.declared.graph.Graph.{Graph}
use Rattle.sweep_tests.proofs.swept.swept.Goals as goal

pub sweep-requires-clause-main : goal.sweep-requires-clause-main
sweep-requires-clause-main c =
    subst (λ (gs : List Graph). (g : Graph) × (slice_get gs c.args.main ≡ Some g) × (g.params ≡ 0)) c.as_slice.ensures
    (c.is_main.ensures c.if-not-is_main.false)
