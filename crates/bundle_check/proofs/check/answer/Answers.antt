use Rattle.std.proofs.Common.{List, map, subst}
use Rattle.proof_bundle.specs.Claims.{claim_of}
use Rattle.proof_bundle.specs.declared.bundle.Claim.{Claim}
use Rattle.bundle_check.specs.RightClaims.{AreRightClaims}
use Rattle.bundle_check.specs.steps.Checks.{IfFirstWrong}
use Rattle.bundle_check.proofs.check.answer.Goals as goal

pub returns-in-None : goal.returns-in-None
returns-in-None c =
    let gs = c.args.graphs.now.graphs in
    record {
      begins = c.is_of_assertion.ensures.0 c.if-not-is_of_assertion.false;
      right = subst (λ (claims : List Claim). AreRightClaims gs (map claim_of claims)) c.as_slice.ensures.value
          (subst (IfFirstWrong gs (map claim_of c.as_slice.result.now)) c.in-None.is c.in_ok-claim.ensures);
    }
