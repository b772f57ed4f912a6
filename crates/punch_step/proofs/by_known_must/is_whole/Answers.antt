use Rattle.std.proofs.Common.{List, ◌∷◌, [], Option, subst}
use Rattle.std.proofs.lemmas.Result.{IfOk-weaker}
use Rattle.std.specs.Prelude.{IfSome, IsTrue}
use Rattle.linear_formula.specs.Extremes.{AreExtremes}
use Rattle.linear_formula.specs.declared.formula.Atom.{Atom}
use Rattle.linear_formula.specs.declared.formula.Cube.{Cube}
use Rattle.flow_graph.specs.Calls.{call_site}
use Rattle.summary_form.specs.declared.path.Path.{Path}
use Rattle.query_rules.specs.Crossings.{IsShownNotToSplit}
use Rattle.punch_step.specs.ByMusts.{crossing_by, marking}
use Rattle.punch_step.specs.KnownMusts.{AreOwnRows, IsBareOf, IsPreOuter}
use Rattle.punch_step.specs.steps.Musts.{IsWhole}
use Rattle.punch_step.proofs.KnownMusts.{whole-by-outer}
use Rattle.punch_step.proofs.by_known_must.is_whole.Goals as goal

pub returns : goal.returns
returns c =
    let a = c.args.calling.now in
    let own = c.args.own.now in
    let pre = c.in-Some.pre in
    let e = c.in_ok-source.source in
    let outer = subst (λ (o : Option Cube). IfSome o (λ pre. (must : Path) → IsBareOf must c.args.bare.now →
    AreOwnRows must (call_site a.call.now).arguments own → IsPreOuter a must pre.atoms)) c.in-Some.is c.in_ok-pre.ensures in
    let extremes = subst (λ (rows : List Atom). AreExtremes e.numbers.items e.cube.atoms rows) c.as_slice.ensures.value
    c.in_ok-source.ensures.extremes in
    IfOk-weaker c.is_whole_with.result (λ whole. IsTrue whole → IsWhole a.query.now (marking a) e.cube.atoms pre.atoms)
    (λ whole. IsTrue whole → (must : Path) → IsBareOf must c.args.bare.now → AreOwnRows must (call_site a.call.now).arguments own →
    IsShownNotToSplit a.query.now (marking a ∷ []) a.source.now.atoms (crossing_by a must))
    (λ whole h t must bare kept. let o = outer must bare kept in
    whole-by-outer a.query.now (marking a) (crossing_by a must) e.numbers.items e.cube.atoms a.source.now.atoms pre.atoms o.pre extremes
    o.outer o.is_pre (h t)) c.is_whole_with.ensures
