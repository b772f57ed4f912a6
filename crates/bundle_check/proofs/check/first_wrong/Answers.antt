use Rattle.std.proofs.Common.{arith, sym, subst}
use Rattle.proof_bundle.specs.Claims.{claim_of}
use Rattle.bundle_check.specs.RightClaims.{IsFirstWrongClaim}
use Rattle.std.proofs.Common.{map}
use Rattle.bundle_check.proofs.FirstWrong.{all_below, one_below, wrong_there}
use Rattle.bundle_check.proofs.check.first_wrong.Goals as goal

pub returns-then-not-branch : goal.returns-then-not-branch
returns-then-not-branch c =
    let gs = c.args.graphs.now.graphs in
    let claims = c.args.claims.now in
    subst (IsFirstWrongClaim gs (map claim_of claims)) (sym c.in-Ok.ensures.1)
    (wrong_there gs claims c.loop-number.number c.index-claims-number.result c.loop-number-test.true c.index-claims-number.is
    c.loop-number.invariant c.in_ok-is_right_claim.field-0 c.if-not-branch.true c.in_ok-is_right_claim.ensures.1)

pub loop-number-preserved : goal.loop-number-preserved
loop-number-preserved c =
    one_below c.args.graphs.now.graphs c.args.claims.now c.loop-number.number c.index-claims-number.result c.loop-number-test.true
    c.index-claims-number.is c.loop-number.invariant (c.in_ok-is_right_claim.ensures.0 c.if-not-branch.false)

pub returns : goal.returns
returns c =
    all_below c.args.graphs.now.graphs c.args.claims.now c.loop-number.number c.loop-number.invariant
    (omega (arith, c.loop-number-test.false))
