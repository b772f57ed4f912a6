use Rattle.std.proofs.Common.{◌∷◌, [], Option, subst}
use Rattle.std.proofs.lemmas.Result.{IfOk-weaker}
use Rattle.std.specs.Prelude.{IsTrue}
use Rattle.flow_graph.specs.Calls.{call_site}
use Rattle.summary_form.specs.declared.path.Path.{Path}
use Rattle.query_rules.specs.Crossings.{IsShownNotToSplit}
use Rattle.punch_step.specs.ByMusts.{NeitherBy, crossing_by, marking}
use Rattle.punch_step.specs.KnownMusts.{AreOwnRows, IfOwnRows, IsBareOf}
use Rattle.punch_step.specs.declared.own_rows.OwnRows.{OwnRows}
use Rattle.punch_step.proofs.KnownMusts.{neither-by-outer}
use Rattle.punch_step.proofs.by_known_must.is_neither.Goals as goal

pub returns : goal.returns
returns c =
    let a = c.args.calling.now in
    let must = c.args.must.now in
    let k = c.in_ok-known.known.now in
    let kept = c.in_ok-known.ensures in
    let own : AreOwnRows must (call_site a.call.now).arguments c.in-Some.own =
    subst (λ (o : Option OwnRows). IfOwnRows must (call_site a.call.now).arguments o) c.in-Some.is kept.if_own in
    let never = c.in_ok-never_comes.ensures c.if-not-branch.false must kept.is_bare kept.are_guard in
    IfOk-weaker c.is_whole.result (λ whole. IsTrue whole → (m : Path) → IsBareOf m k.bare →
    AreOwnRows m (call_site a.call.now).arguments c.in-Some.own → IsShownNotToSplit a.query.now (marking a ∷ []) a.source.now.atoms
    (crossing_by a m)) (λ neither. IsTrue neither → NeitherBy a must)
    (λ whole h t. neither-by-outer a must never (h t must kept.is_bare own)) c.is_whole.ensures
