-- What a checked bundle says: the first wrong claim, and the runs of the program.
use Rattle.std.proofs.Common.{◌≡◌, ◌⊎◌, inl, inr, ⊎_elim, ◌↔◌, ℕ, zero, suc, ◌<◌, List, [], ◌++◌, length, map, Option, Some, None, ℤ, cond, arith, refl, sym, subst, ap, ◌∙◌}
use Rattle.std.specs.Prelude.{slice_get, IsTrue, Bool, true}
use Rattle.std.proofs.lemmas.Bool.{eq-eqb}
use Rattle.std.specs.Option.{option_map}
use Rattle.std.proofs.lemmas.Option.{same_Some, slice_get-map}
use Rattle.c_tree.specs.Meaning.{Failed, Reaches}
use Rattle.c_tree.specs.Syntax.{PureProcedure, PureProgram}
use Rattle.c_tree.specs.WellFormed.{IsWellFormed}
use Rattle.flow_graph.specs.Columns.{AreAllValues}
use Rattle.flow_graph.specs.Linked.{AreGraphs}
use Rattle.flow_graph.specs.ProgramGraphs.{MayTake, SameRuns}
use Rattle.flow_graph.specs.Runs.{GraphRuns, entry_list, failed}
use Rattle.flow_graph.specs.declared.graph.Graph.{Graph}
use Rattle.summary_form.specs.Instances.{arity_in, arity_of_procedure, graph_runs}
use Rattle.summary_form.specs.NotMays.{NotMayHolds}
use Rattle.summary_form.specs.ProgramGraphs.{SameArities}
use Rattle.proof_bundle.specs.Claims.{PureBundle, PureClaim, claim_of, pure_of}
use Rattle.proof_bundle.specs.declared.bundle.Bundle.{Bundle}
use Rattle.proof_bundle.specs.declared.bundle.Claim.{Claim}
use Rattle.bundle_check.specs.declared.check.Checked.{Checked}
use Rattle.bundle_check.specs.declared.check.Checked.TheVariants as checked
use Rattle.bundle_check.specs.RightClaims.{IsFirstWrong, IsFirstWrongClaim, IsOfAssertion, IsRightProof, failure_at}
use Rattle.bundle_check.specs.steps.Checks.{Says}
use Rattle.bundle_check.proofs.Holding.{proofs_hold}

-- The first claim

pub first_asks : (main : ℕ) (b : Bundle) (x : Claim) → slice_get b.claims.items 0 ≡ Some x → (r : Bool) →
    (IsTrue r ↔ (x.query ≡ failure_at main b.id)) → IsTrue r ↔ IsOfAssertion main (pure_of b)
first_asks main b x at r h = (
  λ t. record { first = claim_of x; at = there; asks = h.0 t },
  λ w. h.1 (ap (λ (c : PureClaim). c.query) (same_Some (claim_of x) w.first (sym there ∙ w.at)) ∙ w.asks),
)
  where
    there : slice_get (map claim_of b.claims.items) 0 ≡ Some (claim_of x)
    there = slice_get-map claim_of b.claims.items 0 ∙ ap (option_map claim_of) at

-- One answer

module _ (gs : List Graph) (main : ℕ) (b : PureBundle) where
  pub right_not_wrong : (n : ℕ) → IsRightProof gs main b → IsFirstWrong gs main b n → ⊥
  right_not_wrong n r w = ⊎_elim (λ k. k.0 r.begins) (λ k. k.1.wrong (r.right n k.1.claim k.1.at)) w

  lower : (m n : ℕ) → IsFirstWrongClaim gs b.claims m → IsFirstWrongClaim gs b.claims n → m < n → ⊥
  lower m n v w l = v.wrong (w.before m v.claim l v.at)

  one_first : (m n : ℕ) → IsFirstWrongClaim gs b.claims m → IsFirstWrongClaim gs b.claims n → m ≡ n
  one_first m n v w = by (order m n) where
    order : (m n : ℕ) → (m < n) ⊎ ((n < m) ⊎ (m ≡ n))
    order zero zero = inr (inr refl)
    order zero (suc n) = inl (omega arith)
    order (suc m) zero = inr (inl (omega arith))
    order (suc m) (suc n) = ⊎_elim (λ l. inl (omega (arith, l))) (λ k. ⊎_elim (λ l. inr (inl (omega (arith, l))))
        (λ e. inr (inr (ap suc e)))
        k)
        (order m n)

    by : (m < n) ⊎ ((n < m) ⊎ (m ≡ n)) → m ≡ n
    by k = ⊎_elim (λ l. absurd (lower m n v w l)) (λ j. ⊎_elim (λ l. absurd (lower n m w v l)) (λ e. e) j) k

  one_wrong : (m n : ℕ) → IsFirstWrong gs main b m → IsFirstWrong gs main b n → m ≡ n
  one_wrong m n v w = ⊎_elim (λ k. ⊎_elim (λ j. k.1 ∙ sym j.1) (λ j. absurd (k.0 j.0)) w)
      (λ k. ⊎_elim (λ j. absurd (j.0 k.0)) (λ j. one_first m n k.1 j.1) w) v

  pub exactly_right : (c : Checked) → Says gs main b c → (c ≡ checked.Right) ↔ IsRightProof gs main b
  exactly_right checked.Right s = ((λ e. s), (λ r. refl))
  exactly_right (checked.Wrong n) s = (
    (λ e. absurd (let none : checked.Wrong n ≡ checked.Right = e in cc)),
    (λ r. absurd (right_not_wrong n r s)),
  )

  pub exactly_wrong : (c : Checked) → Says gs main b c → (n : ℕ) → (c ≡ checked.Wrong n) ↔ IsFirstWrong gs main b n
  exactly_wrong checked.Right s n = (
    (λ e. absurd (let none : checked.Right ≡ checked.Wrong n = e in cc)),
    (λ w. absurd (right_not_wrong n s w)),
  )
  exactly_wrong (checked.Wrong m) s n = (
    λ e. subst (IsFirstWrong gs main b) (let same : checked.Wrong m ≡ checked.Wrong n = e in cc) s,
    λ w. ap (λ k. checked.Wrong k) (one_wrong m n s w),
  )

-- The program

module _ (P : PureProgram) (gs : List Graph) (fine : IsWellFormed P) (opening : AreAllValues P.globals) (runs : SameRuns P gs)
    (arities : SameArities P gs) where
  enters_none : entry_list P P.main [] P.globals ≡ []
  enters_none = ap (λ t. cond t [] ([] ++ P.globals)) (eq-eqb P.main P.main refl)

  may_take : MayTake P P.main [] P.globals
  may_take = record {
    arguments = fine.main_takes_none;
    begins = record { count = refl; opening = λ e. refl };
    values = λ i. refl;
    global_values = opening;
  }

  none_of_main : (o : Option PureProcedure) → (arity_of_procedure true (length P.globals) o).entries ≡ 0
  none_of_main None = refl
  none_of_main (Some p) = refl

  main_has_none : (arity_in gs P.main).entries ≡ 0
  main_has_none = ap (λ a. a.entries) (arities.arities P.main)
      ∙ ap (λ t. (arity_of_procedure t (length P.globals) (slice_get P.procedures P.main)).entries) (eq-eqb P.main P.main refl)
      ∙ none_of_main (slice_get P.procedures P.main)

  -- where the graphs' runs of `main` don't fail there, the program doesn't
  pub never_reached : (id : ℕ) → NotMayHolds (graph_runs gs) (failure_at P.main id) → (ins : List ℤ) → Reaches P id ins → ⊥
  never_reached id none ins w = none w.0 [] ins [] (record {
    count = sym main_has_none;
    values = λ i. refl;
    run = subst (λ xs. GraphRuns gs w.0 P.main xs ins (failed id)) enters_none
        (runs.program_to_graphs w.0 P.main [] P.globals ins (Failed id) w.1 may_take w.2);
  }) tt

  pub sound : AreGraphs gs → (b : PureBundle) → (c : Checked) → Says gs P.main b c → c ≡ checked.Right → (ins : List ℤ) →
      Reaches P b.id ins → ⊥
  sound linked b c s e = never_reached b.id (proofs_hold gs P.main b linked ((exactly_right gs P.main b c s).0 e))
