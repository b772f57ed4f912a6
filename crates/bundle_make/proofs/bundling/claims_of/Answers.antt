use Rattle.std.proofs.Common.{◌≡◌, ℕ, ◌+◌, ◌<◌, ◌∷◌, [], List, Some, get_or, length, map, sym, subst, ap, ◌∙◌}
use Rattle.std.specs.Prelude.{slice_get}
use Rattle.std.proofs.lemmas.List.{map-append}
use Rattle.std.proofs.lemmas.Option.{slice_get-get_or}
use Rattle.proof_bundle.specs.Claims.{PureClaim, claim_of}
use Rattle.bundle_make.specs.steps.Claims.{AreClaimsOf}
use Rattle.bundle_make.proofs.Bundled.{claims_more}
use Rattle.bundle_make.proofs.bundling.claims_of.Goals as goal

-- the item of the list, which is read through a reference
item_at : (xs ids : List ℕ) (k : ℕ) → xs ≡ ids → k < length xs → slice_get ids k ≡ Some (get_or xs k 0)
item_at xs ids k same lt = ap (λ (ys : List ℕ). slice_get ys k) (sym same) ∙ slice_get-get_or xs k 0 lt

pub claim_of-requires-clause-led : goal.claim_of-requires-clause-led
claim_of-requires-clause-led c = λ x d.
    c.requires.all _ x (
      c.loop-id.id-index,
      item_at c.deref-id-items.result.now c.args.listing.now.ids.items c.loop-id.id-index
          c.deref-id-items.ensures.value c.loop-id-test.true,
    ) d

pub loop-id-preserved : goal.loop-id-preserved
loop-id-preserved c =
    let ids = c.args.listing.now.ids.items in
    let xs = c.deref-id-items.result.now in
    let k = c.loop-id.id-index in
    let old : List PureClaim = map claim_of c.loop-id.claims.items in
    let claim : PureClaim = claim_of c.in_ok-claim.claim in
    let all = ap (λ cs. map claim_of cs) c.in_ok-push.ensures.items ∙ map-append claim_of c.loop-id.claims.items (c.in_ok-claim.claim ∷ [])
    in
    subst (AreClaimsOf c.args.board.now ids (k + 1)) (sym all)
    (claims_more c.args.board.now ids k (get_or xs k 0) old claim c.loop-id.invariant
    (item_at xs ids k c.deref-id-items.ensures.value c.loop-id-test.true) (record {
      claim = c.in_ok-claim.ensures.claim;
      right = c.in_ok-claim.ensures.right;
      ranges = c.in_ok-claim.ensures.ranges;
    }))
