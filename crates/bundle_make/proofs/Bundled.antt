-- The claims of listed queries make a right bundle.
use Rattle.std.proofs.Common.{◌≡◌, ⊎_elim, ℕ, suc, ◌+◌, ◌^◌, ◌<◌, ◌≤◌, List, [], ◌∷◌, ◌++◌, length, map, Option, Some, None, arith, refl, sym, subst, ap, ◌∙◌}
use Rattle.std.specs.Prelude.{slice_get}
use Rattle.std.specs.List.{AllByRecursion}
use Rattle.std.specs.Option.{option_map}
use Rattle.std.proofs.lemmas.List.{length_push}
use Rattle.std.proofs.lemmas.Option.{none-some, same_Some, slice_get_within, slice_get-map}
use Rattle.query_tree.proofs.Lists.{from_pushed, present}
use Rattle.summary_form.specs.declared.query.Query.{Query}
use Rattle.bolt_core.specs.Boards.{Shown, root_query}
use Rattle.bolt_core.specs.Groups.{Node}
use Rattle.bolt_core.specs.Verdicts.{IsProvedIn}
use Rattle.proof_bundle.specs.Claims.{PureBundle, PureClaim}
use Rattle.proof_bundle.specs.Text.{IsBundle, IsClaim}
use Rattle.bundle_check.specs.RightClaims.{IsRightProof, failure_at, queries_of}
use Rattle.bundle_make.specs.Bundling.{IsBundleOf}
use Rattle.bundle_make.specs.steps.Claims.{AreClaimsFrom, AreClaimsOf, IsClaimFor}
use Rattle.bundle_make.specs.steps.Listing.{AreAskedBy}

all_from : (P : PureClaim → Type 0) (cs : List PureClaim) → ((n : ℕ) (c : PureClaim) → slice_get cs n ≡ Some c → P c) →
    AllByRecursion P cs
all_from P [] each = tt
all_from P (c ∷ cs) each = (each 0 c refl, all_from P cs (λ n d at. each (suc n) d at))

-- what a node asks; what it is where there is none doesn't matter
abbrev asked_in : Option Node → Query
asked_in None = root_query 0 0
asked_in (Some n) = n.query

module _ (b : Shown) where
  abbrev asked : List ℕ → List Query
  asked ids = map (λ i. asked_in (slice_get b.core.nodes i)) ids

  asked_by : (ids : List ℕ) → AreAskedBy b.core.nodes ids (asked ids)
  asked_by ids n i node at there = slice_get-map (λ k. asked_in (slice_get b.core.nodes k)) ids n
      ∙ (ap (option_map (λ k. asked_in (slice_get b.core.nodes k))) at ∙ ap (λ o. Some (asked_in o)) there)

  claim_asks : (ids : List ℕ) (i : ℕ) (c : PureClaim) → IsClaimFor b ids i c → (node : Node) → slice_get b.core.nodes i ≡ Some node →
      c.query ≡ node.query
  claim_asks ids i c d node there =
      let w = d.claim (asked ids) (asked_by ids) in
      w.query ∙ (w.closed.query ∙ ap (λ (n : Node). n.query) (same_Some w.closed.node node (sym w.closed.node_at ∙ there)))

  -- The first claims

  pub claims_none : (ids : List ℕ) → AreClaimsOf b ids 0 []
  claims_none ids = record { each = refl; are = λ n i c at there. absurd (none-some c there) }

  pub claims_more : (ids : List ℕ) (count i : ℕ) (cs : List PureClaim) (c : PureClaim) → AreClaimsOf b ids count cs →
      slice_get ids count ≡ Some i → IsClaimFor b ids i c → AreClaimsOf b ids (count + 1) (cs ++ c ∷ [])
  claims_more ids count i cs c a at d = record {
    each = omega (arith, length_push cs c, a.each);
    are = λ n j e there is. ⊎_elim (λ o. a.are n j e there o) (λ o. last n j e there (o.0 ∙ a.each) o.1) (from_pushed cs c n e is);
  } where
    last : (n j : ℕ) (e : PureClaim) → slice_get ids n ≡ Some j → n ≡ count → e ≡ c → IsClaimFor b ids j e
    last n j e there same is =
        let j_is : i ≡ j = same_Some i j (sym at ∙ (ap (slice_get ids) (sym same) ∙ there)) in
        subst (IsClaimFor b ids j) (sym is) (subst (λ k. IsClaimFor b ids k c) j_is d)

  -- All claims

  module _ (root : ℕ) (bundle : PureBundle) (f : AreClaimsFrom b root bundle.claims) where
    claims_ask : AreAskedBy b.core.nodes f.ids (queries_of bundle.claims)
    claims_ask n i node at there =
        let c = present bundle.claims n (omega (arith, f.are.each, slice_get_within f.ids n i at)) in
        slice_get-map (λ (d : PureClaim). d.query) bundle.claims n ∙ (ap (option_map (λ (d : PureClaim). d.query)) c.1
        ∙ ap Some (claim_asks f.ids i c.0 (f.are.are n i c.0 at c.1) node there))

    pub bundle_is : IsBundleOf b root bundle
    bundle_is = record {
      ids = f.ids;
      claimed = f.claimed;
      each = f.are.each;
      claims = λ n i c at there. (f.are.are n i c at there).claim (queries_of bundle.claims) claims_ask;
    }

    pub bundle_right : IsProvedIn b root → bundle.id ≡ root → IsRightProof b.graphs b.main bundle
    bundle_right p same =
        let first = present bundle.claims 0 (omega (arith, f.are.each, slice_get_within f.ids 0 root f.claimed.first)) in
        let asks : first.0.query ≡ root_query b.main root =
        claim_asks f.ids root first.0 (f.are.are 0 root first.0 f.claimed.first first.1) p.closed.node p.closed.node_at
        ∙ (sym p.closed.query ∙ p.query) in
        record {
          begins = record {
            first = first.0;
            at = first.1;
            asks = asks ∙ ap (failure_at b.main) (sym same);
          };
          right = λ n c there.
              let i = present f.ids n (omega (arith, f.are.each, slice_get_within bundle.claims n c there)) in
              (f.are.are n i.0 c i.1 there).right (queries_of bundle.claims) claims_ask;
        }

    pub bundle_ranges : length bundle.source ≤ 65536 → bundle.id < 2 ^ 32 → length bundle.claims < 2 ^ 64 → IsBundle bundle
    bundle_ranges source id few = record {
      source = source;
      id = id;
      claims = (
        few,
        all_from IsClaim bundle.claims (λ n c there.
            let i = present f.ids n (omega (arith, f.are.each, slice_get_within bundle.claims n c there)) in
            (f.are.are n i.0 c i.1 there).ranges),
      );
    }
