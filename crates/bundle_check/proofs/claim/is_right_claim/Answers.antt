use Rattle.std.proofs.Common.{◌↔◌, List, IsTrue, map, refl, sym, subst, ap, ◌∙◌}
use Rattle.std.specs.Prelude.{slice_get}
use Rattle.std.proofs.lemmas.Option.{slice_get_read}
use Rattle.std.proofs.lemmas.Result.{IfOk-weaker}
use Rattle.proof_bundle.specs.Claims.{claim_of, move_of}
use Rattle.proof_bundle.specs.declared.bundle.Move.{Move}
use Rattle.summary_form.specs.declared.query.Query.{Query}
use Rattle.bundle_check.specs.RightClaims.{IsRightClaim, queries_of}
use Rattle.bundle_check.specs.steps.Checks.{Closes, Decides}
use Rattle.bundle_check.proofs.Doing.{claim_closes, claim_misfits}
use Rattle.bundle_check.proofs.claim.is_right_claim.Goals as goal

pub returns-then-not-fits : goal.returns-then-not-fits
returns-then-not-fits c =
    let e = c.in-Some.ensures.lookup in
    let g = c.in-Some.graph.now in
    let claim = c.args.claim.now in
    let there = ap (λ xs. slice_get xs claim.query.proc) (sym c.as_slice.ensures)
    ∙ slice_get_read c.as_slice.result.now _ claim.query.proc g refl e.3.0 e.1 in
    claim_misfits c.args.graphs.now.graphs (queries_of (map claim_of c.args.claims.now)) g (claim_of claim) there c.fits.result
    c.fits.ensures c.if-not-fits.true

pub returns : goal.returns
returns c =
    let e = c.in-Some.ensures.lookup in
    let g = c.in-Some.graph.now in
    let claim = c.args.claim.now in
    let gs = c.args.graphs.now.graphs in
    let qs : List Query = queries_of (map claim_of c.args.claims.now) in
    let there = ap (λ xs. slice_get xs claim.query.proc) (sym c.as_slice.ensures)
    ∙ slice_get_read c.as_slice.result.now _ claim.query.proc g refl e.3.0 e.1 in
    let begun = c.in_ok-partition.partition in
    let moves = c.as_slice-2.result.now in
    IfOk-weaker c.closes.result (Decides begun (Closes g claim.query.exit qs claim.query (map move_of moves)))
    (λ r. IsTrue r ↔ IsRightClaim gs qs (claim_of claim))
    (λ r d. claim_closes gs qs g (claim_of claim) there c.fits.result c.fits.ensures c.if-not-fits.false begun
    (record { regions = c.in_ok-partition.ensures.regions; live = c.in_ok-partition.ensures.live }) r
    (subst (λ (ms : List Move). Decides begun (Closes g claim.query.exit qs claim.query (map move_of ms)) r) c.as_slice-2.ensures d))
    c.closes.ensures
