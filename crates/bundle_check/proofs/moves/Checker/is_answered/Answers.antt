use Rattle.std.proofs.Common.{◌↔◌, List, IsTrue, map, refl, sym, subst}
use Rattle.std.proofs.lemmas.Option.{slice_get_read}
use Rattle.std.proofs.lemmas.Result.{IfOk-weaker}
use Rattle.infeasible_cert.specs.Refutation.{Refutation, refutation_of}
use Rattle.summary_form.specs.declared.query.Query.{Query}
use Rattle.proof_bundle.specs.Claims.{claim_of}
use Rattle.bundle_check.specs.RightClaims.{KillsCall, queries_of}
use Rattle.bundle_check.specs.steps.Checks.{Decides, IsAnswered}
use Rattle.bundle_check.specs.steps.Places.{IfAsked}
use Rattle.bundle_check.proofs.Claiming.{call_decided, no_call_asked, query_of_claim}
use Rattle.bundle_check.proofs.moves.Checker.is_answered.Goals as goal

pub returns-in-Some-2 : goal.returns-in-Some-2
returns-in-Some-2 c =
    let g = c.args.self.now.graph.now in
    let exit = c.args.self.now.exit in
    let s = c.args.partition.now in
    let k = c.args.edge.now in
    let claims = c.args.self.now.claims.now in
    let claim = c.in-Some.claim.now in
    let qs : List Query = queries_of (map claim_of claims) in
    let cs : List Refutation = map refutation_of c.args.proof.now in
    let e = c.in-Some.ensures.lookup in
    let there = query_of_claim claims c.args.number claim (slice_get_read claims _ c.args.number claim refl e.3.0 e.1) in
    let asks = subst (IfAsked g exit s k) c.in-Some-2.is c.in_ok-asked.ensures in
    IfOk-weaker c.is_answered.result (λ r. IsTrue r ↔ IsAnswered c.in-Some-2.asked claim.query cs)
    (Decides s (λ p. KillsCall g exit qs p k c.args.number cs))
    (λ r h. call_decided g exit qs s k c.args.number cs (sym c.if-not-live.ensures) c.in-Some-2.asked asks claim.query there r h)
    c.is_answered.ensures

pub returns-in-None : goal.returns-in-None
returns-in-None c =
    let g = c.args.self.now.graph.now in
    let exit = c.args.self.now.exit in
    let s = c.args.partition.now in
    let k = c.args.edge.now in
    no_call_asked g exit (queries_of (map claim_of c.args.self.now.claims.now)) s k c.args.number (map refutation_of c.args.proof.now)
    (subst (IfAsked g exit s k) c.in-None.is c.in_ok-asked.ensures)
