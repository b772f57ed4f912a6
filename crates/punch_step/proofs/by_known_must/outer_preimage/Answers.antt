use Rattle.std.proofs.lemmas.Option.{IfSome_then}
use Rattle.std.proofs.lemmas.Result.{IfOk-weaker}
use Rattle.std.specs.Prelude.{IfSome}
use Rattle.linear_formula.specs.declared.formula.Cube.{Cube}
use Rattle.flow_graph.specs.Calls.{call_site}
use Rattle.summary_form.specs.declared.path.Path.{Path}
use Rattle.punch_step.specs.KnownMusts.{AreOwnRows, IsBareOf, IsPreOuter, IsProjectedWith}
use Rattle.punch_step.proofs.KnownMusts.{known-preimage}
use Rattle.punch_step.proofs.by_known_must.outer_preimage.Goals as goal

pub returns-in-Ok : goal.returns-in-Ok
returns-in-Ok c =
    let a = c.args.calling.now in
    let own = c.args.own.now in
    let e = c.args.target.now in
    let others = c.in-Ok.others.atoms in
    let rows = c.in-Ok.ensures.rows in
    let told : (pre : Cube) → IsProjectedWith own others pre.atoms → (must : Path) → IsBareOf must c.args.bare.now →
    AreOwnRows must (call_site a.call.now).arguments own → IsPreOuter a must pre.atoms = λ pre h must bare kept.
    known-preimage a must c.args.bare.now own e.numbers.items e.cube.atoms others pre.atoms h.pair bare kept c.requires.target.extremes
    rows.sums rows.slots rows.same h.few h.names h.given in
    IfOk-weaker c.projected_with.result (λ o. IfSome o (λ pre. IsProjectedWith own others pre.atoms))
    (λ o. IfSome o (λ pre. (must : Path) → IsBareOf must c.args.bare.now → AreOwnRows must (call_site a.call.now).arguments own →
    IsPreOuter a must pre.atoms)) (λ o h. IfSome_then o h told) c.projected_with.ensures
