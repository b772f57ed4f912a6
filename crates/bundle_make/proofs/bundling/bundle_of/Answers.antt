use Rattle.std.proofs.Common.{arith, refl}
use Rattle.std.proofs.lemmas.List.{length-map}
use Rattle.proof_bundle.specs.Claims.{claim_of}
use Rattle.bundle_make.proofs.Bundled.{bundle_is, bundle_ranges, bundle_right}
use Rattle.bundle_make.proofs.bundling.bundle_of.Goals as goal

pub returns-clause-bundle : goal.returns-clause-bundle
returns-clause-bundle c = bundle_is c.args.board.now c.args.root _ c.in_ok-claims.ensures

pub returns-clause-right : goal.returns-clause-right
returns-clause-right c = bundle_right c.args.board.now c.args.root _ c.in_ok-claims.ensures c.requires.proved refl

pub returns-clause-ranges : goal.returns-clause-ranges
returns-clause-ranges c =
    let claims = c.in_ok-claims.claims in
    bundle_ranges c.args.board.now c.args.root _ c.in_ok-claims.ensures (omega (arith, c.in_ok-source.ensures.len, c.requires.fits))
    (omega (arith, c.ranges.root)) (omega (arith, length-map claims.items claim_of, claims.ok, claims.small))
