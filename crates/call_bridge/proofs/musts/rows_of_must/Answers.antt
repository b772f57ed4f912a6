use Rattle.std.proofs.Common.{◌≡◌, IfErr, IfOk, subst}
use Rattle.shadow_elim.specs.Projection.{IfRefused, refuses}
use Rattle.flow_graph.specs.Calls.{CallSite}
use Rattle.call_bridge.specs.Musts.{AreMustRows, must_preimage}
use Rattle.call_bridge.proofs.musts.rows_of_must.Goals as goal

pub returns-clause-rows : goal.returns-clause-rows
returns-clause-rows c =
    subst (λ (s : CallSite). IfOk c.slotted_rows.result (AreMustRows c.args.must.now s c.args.target.now.atoms)) c.of.ensures
    c.slotted_rows.ensures.rows

pub returns-clause-limit : goal.returns-clause-limit
returns-clause-limit c =
    subst (λ (s : CallSite). IfErr c.slotted_rows.result (λ e. IfRefused e
    (λ kept. must_preimage c.args.must.now s c.args.target.now.atoms ≡ refuses kept))) c.of.ensures c.slotted_rows.ensures.limit
