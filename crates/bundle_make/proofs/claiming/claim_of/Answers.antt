use Rattle.proof_bundle.specs.Claims.{claim_of}
use Rattle.bundle_make.proofs.Bounding.{child_within, claim_ranges}
use Rattle.bundle_make.proofs.Going.{some_claims}
use Rattle.bundle_make.proofs.claiming.claim_of.Goals as goal

pub killed_of-requires : goal.killed_of-requires
killed_of-requires c = λ n j k at.
    child_within c.args.board.now c.reached.ensures c.requires.bare c.args.id c.requires.anchored c.closed_state-state.result.now
    c.closed_state-state.ensures n j k at

-- some claims ask what the listed queries ask
pub returns-clause-ranges : goal.returns-clause-ranges
returns-clause-ranges c =
    let b = c.args.board.now in
    let some = some_claims b.core.nodes c.args.listing.now.ids.items in
    claim_ranges b.graphs some.0 (claim_of c.in_ok-claim.claim) (c.in_ok-claim.ensures.right some.0 some.1) c.claim_fits.ensures
