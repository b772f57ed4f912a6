use Rattle.std.proofs.Common.{◌≡◌, ◌∙◌, ap, sym}
use Rattle.shadow_elim.specs.Projection.{refuses}
use Rattle.shadow_elim.proofs.Projecting.{passed-on}
use Rattle.flow_graph.specs.Calls.{CallSite, call_site}
use Rattle.call_bridge.specs.Asked.{asked}
use Rattle.call_bridge.proofs.asking.asking_of.Goals as goal

pub returns-in_err-rows-clause-limit : goal.returns-in_err-rows-clause-limit
returns-in_err-rows-clause-limit c =
    let source = c.args.source.now.atoms in let target = c.args.target.now.atoms in
    passed-on (λ kept. asked c.args.exit c.of-site.result source target ≡ refuses kept)
    (λ kept. asked c.args.exit (call_site c.args.call.now) source target ≡ refuses kept)
    c.from_residual.result c.in_err-rows.field-0.0 c.from_residual.ensures.1
    (λ kept e. ap (λ (s : CallSite). asked c.args.exit s source target) (sym c.of-site.ensures) ∙ e)
    c.in_err-rows.ensures.limit
