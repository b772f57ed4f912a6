use Rattle.std.proofs.Common.{◌≡◌, sym, subst}
use Rattle.linear_formula.specs.declared.formula.Cube.{Cube}
use Rattle.shadow_elim.specs.Projection.{IfRefused, refuses}
use Rattle.flow_graph.specs.Calls.{call_site}
use Rattle.call_bridge.specs.Asked.{asked}
use Rattle.call_bridge.specs.Asking.{IsAsking}
use Rattle.bundle_check.proofs.Asking.{asks_one, none_limited}
use Rattle.bundle_check.proofs.asked.asked_over.Goals as goal

pub returns-in-Ok : goal.returns-in-Ok
returns-in-Ok c =
    let place = c.in-Some.place in
    asks_one c.args.graph.now c.args.exit c.args.partition.now c.args.edge.now place.over.now place.source.now place.target.now
    c.in-Some.ensures.found c.in-Some-exit_at.kind (sym c.in-Some-exit_at.ensures) (sym c.if-not-is_call.ensures) c.in-Ok.asking
    (subst (λ (x : Cube). IsAsking c.in-Some-exit_at.kind place.over.now x.atoms place.target.now.cube.atoms c.in-Ok.asking)
    c.in_ok-source.ensures
    (subst (λ (x : Cube). IsAsking c.in-Some-exit_at.kind place.over.now c.in_ok-source.source.atoms x.atoms c.in-Ok.asking)
    c.in_ok-target.ensures c.in-Ok.ensures.rows))

pub returns-in-Err-Limit : goal.returns-in-Err-Limit
returns-in-Err-Limit c =
    let place = c.in-Some.place in
    none_limited c.args.graph.now c.args.exit c.args.partition.now c.args.edge.now place.over.now place.source.now place.target.now
    c.in-Some.ensures.found c.in-Some-exit_at.kind (sym c.in-Some-exit_at.ensures) c.in-Err-Limit.field-0-0
    (subst (λ (x : Cube). asked c.in-Some-exit_at.kind (call_site place.over.now) x.atoms
    place.target.now.cube.atoms ≡ refuses c.in-Err-Limit.field-0-0) c.in_ok-source.ensures
    (subst (λ (x : Cube). asked c.in-Some-exit_at.kind (call_site place.over.now)
    c.in_ok-source.source.atoms x.atoms ≡ refuses c.in-Err-Limit.field-0-0) c.in_ok-target.ensures
    (subst (λ e. IfRefused e (λ kept. asked c.in-Some-exit_at.kind (call_site place.over.now)
    c.in_ok-source.source.atoms c.in_ok-target.target.atoms ≡ refuses kept)) c.in-Err-Limit.field-0-is c.in-Err-Limit.ensures.limit)))
