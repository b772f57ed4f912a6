use Rattle.std.proofs.Common.{◌≡◌, IfErr, IfOk, subst}
use Rattle.shadow_elim.specs.Projection.{IfRefused, gives, refuses}
use Rattle.shadow_elim.specs.Shadows.{pair_rows}
use Rattle.flow_graph.specs.Calls.{CallSite}
use Rattle.call_bridge.specs.Musts.{must_preimage}
use Rattle.call_bridge.proofs.musts.rows_before.Goals as goal

pub returns-clause-rows : goal.returns-clause-rows
returns-clause-rows c =
    subst (λ (s : CallSite). IfOk c.must_preimage.result (λ p. must_preimage c.args.must.now s c.args.target.now.atoms
    ≡ gives p.cube.atoms (pair_rows p.inexact))) c.of.ensures c.must_preimage.ensures.rows

pub returns-clause-limit : goal.returns-clause-limit
returns-clause-limit c =
    subst (λ (s : CallSite). IfErr c.must_preimage.result (λ e. IfRefused e
    (λ kept. must_preimage c.args.must.now s c.args.target.now.atoms ≡ refuses kept))) c.of.ensures c.must_preimage.ensures.limit
