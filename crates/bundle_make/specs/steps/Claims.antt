-- Claims of listed queries.
use Rattle.std.specs.Prelude.{◌≡◌, ℕ, List, length, Some, slice_get}
use Rattle.summary_form.specs.declared.query.Query.{Query}
use Rattle.bolt_core.specs.Boards.{Shown}
use Rattle.proof_bundle.specs.Claims.{PureClaim}
use Rattle.proof_bundle.specs.Text.{IsClaim}
use Rattle.bundle_check.specs.RightClaims.{IsRightClaim}
use Rattle.bundle_make.specs.Bundling.{AreClaimed, IsClaimOf}
use Rattle.bundle_make.specs.steps.Listing.{AreAskedBy}

module _ (b : Shown) where
  -- the claim of query i, whichever claims ask what the listed queries ask
  pub record IsClaimFor (ids : List ℕ) (i : ℕ) (c : PureClaim) : Type 0 where
    pub claim : (claims : List Query) → AreAskedBy b.core.nodes ids claims →
        IsClaimOf b claims i c
    pub right : (claims : List Query) → AreAskedBy b.core.nodes ids claims →
        IsRightClaim b.graphs claims c
    pub ranges : IsClaim c

  -- the claims of the first listed queries
  pub record AreClaimsOf (ids : List ℕ) (count : ℕ) (claims : List PureClaim) : Type 0 where
    pub each : length claims ≡ count
    pub are : (n i : ℕ) (c : PureClaim) → slice_get ids n ≡ Some i →
        slice_get claims n ≡ Some c → IsClaimFor ids i c

  -- those of all that are to have one
  pub record AreClaimsFrom (root : ℕ) (claims : List PureClaim) : Type 0 where
    pub ids : List ℕ
    pub claimed : AreClaimed b root ids
    pub are : AreClaimsOf ids (length ids) claims
