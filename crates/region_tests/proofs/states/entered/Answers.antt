use Rattle.std.proofs.Common.{[], sym, subst}
use Rattle.query_rules.specs.Applying.{MayApply}
use Rattle.query_rules.specs.Seen.{ShowsModel}
use Rattle.query_rules.specs.Steps.{stepped}
use Rattle.region_tests.specs.Returning.{first_model}
use Rattle.region_tests.proofs.ReturningGraph.{may_enter}
use Rattle.region_tests.proofs.states.entered.Goals as goal

pub apply-requires : goal.apply-requires
apply-requires c =
    let gs = c.args.graphs.now.graphs in let s = c.in_ok-state.state in
    subst (λ x. MayApply gs [] s x) (sym c.entry_step.ensures) (may_enter gs s c.requires c.in_ok-state.ensures)

pub returns : goal.returns
returns c =
    let h = c.in_ok-state.ensures in (
      h.0,
      h.1,
      subst (λ x. ShowsModel c.apply.new.self (stepped h.0 [] x (first_model h.0))) c.entry_step.ensures
          (c.in_ok-apply.ensures (first_model h.0) h.0 h.2 h.1),
    )
