use Rattle.std.proofs.Common.{◌≡◌, ◌∙◌, ℕ, List, IfErr, subst}
use Rattle.shadow_elim.specs.Projection.{refuses, projected, IfRefused}
use Rattle.call_bridge.specs.Rests.{exit_values}
use Rattle.call_bridge.proofs.rest.without_exits.Goals as goal

pub returns-clause-limit : goal.returns-clause-limit
returns-clause-limit c =
    let same : c.deref.result.now ≡ exit_values c.args.rows.now.atoms = c.deref.ensures.value ∙ c.in_ok-columns.ensures in
    subst (λ (columns : List ℕ). IfErr c.project.result (λ e. IfRefused e (λ kept. projected columns c.args.rows.now.atoms ≡ refuses kept)))
    same c.project.ensures.limit
