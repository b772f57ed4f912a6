-- The first claim that isn't right, as the loop over claims finds it.
use Rattle.std.proofs.Common.{◌≡◌, ◌⊎◌, ⊎_elim, inl, inr, ℕ, zero, suc, ◌+◌, ◌<◌, ◌≤◌, List, length, map, get_or, Some, Bool, false, arith, refl, sym, subst, ap, ◌∙◌}
use Rattle.std.specs.Prelude.{slice_get, IsTrue}
use Rattle.std.proofs.lemmas.List.{length-map}
use Rattle.std.proofs.lemmas.Option.{same_Some, slice_get-get_or, slice_get-map, slice_get_within}
use Rattle.std.specs.Option.{option_map}
use Rattle.flow_graph.specs.declared.graph.Graph.{Graph}
use Rattle.proof_bundle.specs.Claims.{PureClaim, claim_of}
use Rattle.proof_bundle.specs.declared.bundle.Claim.{Claim}
use Rattle.bundle_check.specs.RightClaims.{AreRightClaims, IsFirstWrongClaim, IsRightClaim, queries_of}
use Rattle.bundle_check.proofs.Deciding.{untrue}

module _ (gs : List Graph) (claims : List Claim) where
  abbrev Right : PureClaim → Type 0
  Right c = IsRightClaim gs (queries_of (map claim_of claims)) c

  -- the first n of the claims are right
  pub record AreRightBelow (n : ℕ) : Type 0 where
    pub each : (m : ℕ) (c : PureClaim) → m < n → slice_get (map claim_of claims) m ≡ Some c → Right c

  pub all_below : (n : ℕ) → AreRightBelow n → length claims ≤ n → AreRightClaims gs (map claim_of claims)
  all_below n h past m c e =
      let l = slice_get_within (map claim_of claims) m c e in
      h.each m c (omega (arith, l, past, length-map claims claim_of)) e

  module _ (i : ℕ) (x : Claim) (low : i < length claims) (is : x ≡ get_or claims i x) where
    there : slice_get (map claim_of claims) i ≡ Some (claim_of x)
    there = slice_get-map claim_of claims i ∙ ap (option_map claim_of) (slice_get-get_or claims i x low ∙ ap (λ y. Some y) (sym is))

    module _ (h : AreRightBelow i) where
      pub one_below : Right (claim_of x) → AreRightBelow (i + 1)
      one_below r = record { each = λ m c l e. by m c e (cases m i l) } where
        cases : (m i : ℕ) → m < i + 1 → (m < i) ⊎ (m ≡ i)
        cases zero zero l = inr refl
        cases zero (suc i) l = inl (omega arith)
        cases (suc m) zero l = absurd (omega (arith, l))
        cases (suc m) (suc i) l = ⊎_elim (λ k. inl (omega (arith, k))) (λ e. inr (ap suc e)) (cases m i (omega (arith, l)))

        by : (m : ℕ) (c : PureClaim) → slice_get (map claim_of claims) m ≡ Some c → (m < i) ⊎ (m ≡ i) → Right c
        by m c e k = ⊎_elim (λ l. h.each m c l e) (λ same. subst Right (same_Some (claim_of x) c (sym there
            ∙ ap (slice_get (map claim_of claims)) (sym same) ∙ e)) r) k

      pub wrong_there : (r : Bool) → r ≡ false → (Right (claim_of x) → IsTrue r) → IsFirstWrongClaim gs (map claim_of claims) i
      wrong_there r e none = record {
        claim = claim_of x;
        at = there;
        wrong = λ w. untrue (subst (λ b. IsTrue b) e (none w));
        before = h.each;
      }
