use Rattle.std.proofs.Common.{◌≡◌, IfOk, IfErr, subst}
use Rattle.shadow_elim.specs.Projection.{gives, refuses, IfRefused}
use Rattle.shadow_elim.specs.Shadows.{pair_rows}
use Rattle.flow_graph.specs.Calls.{CallSite}
use Rattle.call_bridge.specs.Rests.{rest}
use Rattle.call_bridge.proofs.rest.rest_over.Goals as goal

pub returns-clause-rows : goal.returns-clause-rows
returns-clause-rows c =
    subst (λ (site : CallSite). IfOk c.rest_rows.result (λ p. rest c.args.exit site c.args.target.now.atoms c.args.atom.now
    ≡ gives p.cube.atoms (pair_rows p.inexact)))
    c.of.ensures c.rest_rows.ensures.rows

pub returns-clause-limit : goal.returns-clause-limit
returns-clause-limit c =
    subst (λ (site : CallSite). IfErr c.rest_rows.result (λ e. IfRefused e (λ kept. rest c.args.exit site c.args.target.now.atoms
    c.args.atom.now ≡ refuses kept)))
    c.of.ensures c.rest_rows.ensures.limit
