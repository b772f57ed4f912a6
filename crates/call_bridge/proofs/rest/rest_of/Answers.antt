use Rattle.std.proofs.Common.{◌≡◌}
use Rattle.std.proofs.lemmas.Result.{IfOk-weaker}
use Rattle.shadow_elim.specs.Projection.{gives}
use Rattle.shadow_elim.specs.Shadows.{pair_rows}
use Rattle.flow_graph.specs.Calls.{call_site}
use Rattle.call_bridge.specs.Laws.{IsRegion}
use Rattle.call_bridge.specs.Rests.{rest, FitsRest, HoldsRest}
use Rattle.call_bridge.proofs.Resting.{rest_holds, rest_region}
use Rattle.call_bridge.proofs.rest.rest_of.Goals as goal

pub returns-clause-holds : goal.returns-clause-holds
returns-clause-holds c =
    let exit = c.args.exit in let site = call_site c.args.call.now in
    let target = c.args.target.now.atoms in let atom = c.args.atom.now in
    IfOk-weaker c.rest_over.result (λ p. rest exit site target atom ≡ gives p.cube.atoms (pair_rows p.inexact))
    (λ p. FitsRest site target atom → HoldsRest exit site target atom p.cube.atoms)
    (λ p e f. rest_holds exit site target atom f p.cube.atoms (pair_rows p.inexact) e) c.rest_over.ensures.rows

pub returns-clause-region : goal.returns-clause-region
returns-clause-region c =
    let exit = c.args.exit in let site = call_site c.args.call.now in
    let target = c.args.target.now.atoms in let atom = c.args.atom.now in
    IfOk-weaker c.rest_over.result (λ p. rest exit site target atom ≡ gives p.cube.atoms (pair_rows p.inexact))
    (λ p. FitsRest site target atom → IsRegion p.cube.atoms)
    (λ p e f. rest_region exit site target atom f p.cube.atoms (pair_rows p.inexact) e) c.rest_over.ensures.rows
