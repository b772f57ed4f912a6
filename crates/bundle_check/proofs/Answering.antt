-- The certificates that are looked at one after the other, and what they show.
use Rattle.std.proofs.Common.{◌≡◌, ◌↔◌, ℕ, zero, suc, ◌+◌, ◌<◌, ◌≤◌, List, [], ◌∷◌, length, map, drop, get_or, add-one, Bool, true, ◌&&◌, ◌==◌, arith, refl, sym, subst, ap, ◌∙◌}
use Rattle.std.specs.Prelude.{IsTrue}
use Rattle.std.proofs.Math.Seq.{drop-cons}
use Rattle.std.proofs.lemmas.Bool.{eq-eqb, eqb-true}
use Rattle.std.proofs.lemmas.List.{length-drop}
use Rattle.linear_formula.specs.LinearSum.{LinearSum, has_columns, has_no_zero, is_ascending, is_term, is_within}
use Rattle.linear_formula.specs.Results.{negated}
use Rattle.linear_formula.specs.declared.formula.Atom.{Atom}
use Rattle.linear_formula.proofs.Limits.{both}
use Rattle.linear_formula.proofs.TermAtoms.{are_terms-parts}
use Rattle.infeasible_cert.specs.declared.certificate.Certificate.{Certificate}
use Rattle.infeasible_cert.specs.Refutation.{Refutation, refutation_of}
use Rattle.shadow_elim.specs.Questions.{with_negation}
use Rattle.bundle_check.specs.RightClaims.{AreShown, IsRefutedBy, missing}

pub both_ways : {A B C : Type 0} → A ↔ B → B ↔ C → A ↔ C
both_ways f k = ((λ a. k.0 (f.0 a)), (λ c. f.1 (k.1 c)))

-- the item at a place, and those after it
pub drop_item : {A : Type 0} (xs : List A) (i : ℕ) (x : A) → i < length xs → x ≡ get_or xs i x → drop i xs ≡ x ∷ drop (i + 1) xs
drop_item xs i x h e = rw add-one (drop-cons xs i x h ∙ ap (λ y. y ∷ drop (suc i) xs) (sym e))

pub drop_past : {A : Type 0} (xs : List A) (i : ℕ) → length xs ≤ i → drop i xs ≡ []
drop_past [] zero h = refl
drop_past [] (suc i) h = refl
drop_past (x ∷ xs) zero h = absurd (omega arith)
drop_past (x ∷ xs) (suc i) h = drop_past xs i (omega (arith, h))

-- a negation that is too wide is none of a certificate's rows
pub wide_never : (rows : List Atom) (a : Atom) (c : Refutation) → (IsTrue (is_within (negated a.term)) → ⊥) →
    IsRefutedBy (with_negation rows a) c → ⊥
wide_never rows a c wide r =
    let t : LinearSum = negated a.term in
    let terms = (are_terms-parts rows (record { term = t } ∷ []) r.atoms_terms).1 in
    let one = (both (is_term t) true terms).0 in
    wide (both (is_ascending t.parts && has_no_zero t.parts && has_columns t.parts) (is_within t) one).1

module _ (rows atoms : List Atom) (proof : List Certificate) where
  abbrev All : Type 0
  All = AreShown rows (missing rows atoms) (map refutation_of proof)

  abbrev Rest : ℕ → ℕ → Type 0
  Rest i used = AreShown rows (missing rows (drop i atoms)) (map refutation_of (drop used proof))

  -- the certificates from one on are to show the atoms from one on
  pub record AreLeftShown (i used : ℕ) : Type 0 where
    pub rest : All ↔ Rest i used
    pub within : used ≤ length proof

  -- all atoms are passed
  pub all_used : (i used : ℕ) → AreLeftShown i used → length atoms ≤ i → (r : Bool) → r ≡ (used == length proof) → IsTrue r ↔ All
  all_used i used h past r is = both_ways (left r is) ((λ t. h.rest.1 (subst P (sym e) t)), (λ all. subst P e (h.rest.0 all))) where
    e : drop i atoms ≡ []
    e = drop_past atoms i past

    P : List Atom → Type 0
    P xs = AreShown rows (missing rows xs) (map refutation_of (drop used proof))

    none_there : (cs : List Certificate) → (length cs ≡ 0) ↔ AreShown rows [] (map refutation_of cs)
    none_there [] = ((λ e. tt), (λ t. refl))
    none_there (c ∷ cs) = ((λ e. absurd (omega (arith, e))), (λ t. absurd t))

    left : (r : Bool) → r ≡ (used == length proof) → IsTrue r ↔ AreShown rows [] (map refutation_of (drop used proof))
    left r is = both_ways (
      (λ t. let e = eqb-true used (length proof) (sym is ∙ t) in length-drop used proof ∙ omega (arith, e)),
      (λ k. is ∙ eq-eqb used (length proof) (omega (arith, k, length-drop used proof, h.within))),
    ) (none_there (drop used proof))
