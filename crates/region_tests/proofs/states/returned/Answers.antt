use Rattle.std.proofs.Common.{[], sym, subst}
use Rattle.query_rules.specs.Applying.{MayApply}
use Rattle.region_tests.proofs.ReturningGraph.{may_return}
use Rattle.region_tests.proofs.states.returned.Goals as goal

pub apply-requires : goal.apply-requires
apply-requires c =
    let gs = c.args.graphs.now.graphs in let s = c.in_ok-state.state in
    subst (λ x. MayApply gs [] s x) (sym c.return_step.ensures) (may_return gs s c.requires c.in_ok-state.ensures)
