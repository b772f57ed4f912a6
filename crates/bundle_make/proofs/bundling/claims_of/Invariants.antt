use Rattle.std.proofs.Common.{map}
use Rattle.proof_bundle.specs.Claims.{claim_of}
use Rattle.bundle_make.specs.steps.Claims.{AreClaimsOf}
use Rattle.bundle_make.proofs.bundling.claims_of.Given as goal

abbrev pub invariant-loop-id : goal.invariant-loop-id
invariant-loop-id l = AreClaimsOf l.board l.listing.ids.items l.id-index (map claim_of l.claims.items)
