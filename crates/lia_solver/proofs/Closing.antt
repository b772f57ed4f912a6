-- Rows that never hold, and steps that end in one.
use Rattle.std.proofs.Common.{◌≡◌, ℕ, true, false, Bool, ◌&&◌, List, [], ◌∷◌, ◌++◌, length, ℤ, pos, ◌≤ℤ◌, ◌<ℤ◌, arith, refl, sym, ap, subst, ◌∙◌}
use Rattle.std.specs.Prelude.{IsTrue, int_lt, Result, Ok, Err, IfOk}
use Rattle.std.proofs.lemmas.Int.{ints}
use Rattle.linear_formula.specs.LinearSum.{LinearSum}
use Rattle.infeasible_cert.specs.declared.certificate.Derived.{Derived}
use Rattle.infeasible_cert.specs.Right.{EndsInContradiction}
use Rattle.infeasible_cert.specs.Terms.{AreDerivedTerms}
use Rattle.shadow_elim.specs.Reduction.{has_no_parts, is_contradiction}
use Rattle.shadow_elim.proofs.Staying.{same_parts-decides}
use Rattle.shadow_elim.proofs.Tests.{both_true, lt_yes}
use Rattle.lia_solver.specs.steps.Deriving.{EndWith}

-- Contradictions

no-parts : (ps : List (ℕ × ℤ)) → length ps ≡ 0 → ps ≡ []
no-parts [] h = refl
no-parts (p ∷ ps) h = absurd (omega (arith, h))

pub is-contradiction : (t : LinearSum) → length t.parts ≡ 0 → pos 0 <ℤ t.constant → is_contradiction t ≡ true
is-contradiction t h k =
    both_true (has_no_parts t) (int_lt (pos 0) t.constant) ((same_parts-decides t.parts []).1 (no-parts t.parts h))
    (lt_yes (pos 0) t.constant k)

pub record IsNever (t : LinearSum) : Type 0 where
  pub parts : t.parts ≡ []
  pub constant : pos 1 ≤ℤ t.constant

pub contradiction-is : (t : LinearSum) → IsTrue (is_contradiction t) → IsNever t
contradiction-is t h = record {
  parts = (same_parts-decides t.parts []).0 (front (has_no_parts t) (int_lt (pos 0) t.constant) h);
  constant = above t.constant (back (has_no_parts t) (int_lt (pos 0) t.constant) h);
} where
  front : (a b : Bool) → (a && b) ≡ true → a ≡ true
  front true b h = refl
  front false b h = h

  back : (a b : Bool) → (a && b) ≡ true → b ≡ true
  back true b h = h
  back false b h = absurd (cc)

  above : (c : ℤ) → int_lt (pos 0) c ≡ true → pos 1 ≤ℤ c
  above c h = grind (arith, ints)

-- Steps

pub ends-last : (ds : List Derived) (d : Derived) → (d.row.term.parts ≡ []) × (pos 1 ≤ℤ d.row.term.constant) →
    EndsInContradiction (ds ++ d ∷ [])
ends-last [] d h = h
ends-last (e ∷ []) d h = h
ends-last (e ∷ f ∷ ds) d h = ends-last (f ∷ ds) d h

pub terms-push : (ds : List Derived) (d : Derived) → AreDerivedTerms (d ∷ []) → AreDerivedTerms ds → AreDerivedTerms (ds ++ d ∷ [])
terms-push [] d h k = h
terms-push (e ∷ ds) d h k = (k.0, terms-push ds d h k.1)

-- steps that end with a contradiction
pub ends-in_contradiction : (t : LinearSum) (ds : List Derived) → IsTrue (is_contradiction t) → EndWith t ds → EndsInContradiction ds
ends-in_contradiction t ds c e =
    let never = contradiction-is t c in
    subst EndsInContradiction (sym e.2) (ends-last e.0 e.1 (
      ap (λ (s : LinearSum). s.parts) e.3 ∙ never.parts,
      subst (λ (s : LinearSum). pos 1 ≤ℤ s.constant) (sym e.3) never.constant,
    ))

-- Results

-- a result's value has what two facts give together
pub both-hold : {T E : Type 0} (r : Result T E) (P Q R : T → Type 0) → ((x : T) → P x → Q x → R x) → IfOk r P → IfOk r Q → IfOk r R
both-hold (Ok x) P Q R f p q = f x p q
both-hold (Err e) P Q R f p q = tt
