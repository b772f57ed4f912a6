-- Derived rows, one after the other.
use Rattle.std.proofs.Common.{◌≡◌, ℕ, suc, zero, ◌<◌, ◌≤◌, ◌+◌, List, [], ◌∷◌, ◌++◌, length, take, drop, get_or, pos, ◌↔◌, arith, refl, sym, ap, subst, ◌∙◌}
use Rattle.std.specs.Prelude.{IsTrue, ◌≤ℤ◌}
use Rattle.std.proofs.lemmas.List.{append-nil, append_assoc, map-append, take_more, drop_more}
use Rattle.linear_formula.specs.LinearSum.{LinearSum, is_term}
use Rattle.linear_formula.proofs.Limits.{IsTerm-from_test}
use Rattle.infeasible_cert.specs.declared.certificate.Derived.{Derived}
use Rattle.infeasible_cert.specs.Right.{AreRightSteps, IsRightStep, EndsInContradiction, rows_after}
use Rattle.infeasible_cert.specs.Terms.{AreDerivedTerms}
use Rattle.infeasible_cert.specs.steps.Known.{terms_of, RowsInOrder}
use Rattle.infeasible_cert.proofs.Meeting.{order-append}

pub record DerivedSoFar (rows : List LinearSum) (ds : List Derived) (k : ℕ) : Type 0 where
  pub rest : AreRightSteps (rows ++ terms_of (take k ds)) (drop k ds) ↔ AreRightSteps rows ds
  pub terms : AreDerivedTerms (take k ds)

pub derived-begins : (rows : List LinearSum) (ds : List Derived) → DerivedSoFar rows ds 0
derived-begins rows ds = record {
  rest = subst (λ (ts : List LinearSum). AreRightSteps ts ds ↔ AreRightSteps rows ds) (sym (append-nil rows)) (λ h. h, λ h. h);
  terms = tt;
}

terms-append : (ds es : List Derived) → AreDerivedTerms ds → AreDerivedTerms es → AreDerivedTerms (ds ++ es)
terms-append [] es h k = k
terms-append (d ∷ ds) es h k = (h.0, terms-append ds es h.1 k)

pub derived-order : (ds : List Derived) → AreDerivedTerms ds → RowsInOrder (terms_of ds)
derived-order [] h = tt
derived-order (d ∷ ds) h = ((IsTerm-from_test d.row.term h.0).order, derived-order ds h.1)

pub known-order : (rows : List LinearSum) (ds : List Derived) → RowsInOrder rows → AreDerivedTerms ds → RowsInOrder (rows ++ terms_of ds)
known-order rows ds o h = order-append rows (terms_of ds) o (derived-order ds h)

one-more : (rows : List LinearSum) (ds : List Derived) (k : ℕ) (e : Derived) → k < length ds → rows ++ terms_of (take (k + 1) ds) ≡ rows
    ++ terms_of (take k ds) ++ (get_or ds k e).row.term ∷ []
one-more rows ds k e h =
    ap (λ es. rows ++ terms_of es) (take_more ds k e h) ∙ ap (λ ts. rows ++ ts)
    (map-append (λ d. d.row.term) (take k ds) (get_or ds k e ∷ []))
    ∙ sym (append_assoc rows (terms_of (take k ds)) ((get_or ds k e).row.term ∷ []))

pub derived-steps : (rows : List LinearSum) (ds : List Derived) (k : ℕ) (e : Derived) → DerivedSoFar rows ds k → k < length ds →
    IsTrue (is_term (get_or ds k e).row.term) → IsRightStep (rows ++ terms_of (take k ds)) (get_or ds k e) → DerivedSoFar rows ds (k + 1)
derived-steps rows ds k e s h t r =
    let known = rows ++ terms_of (take k ds) in
    let split = subst (λ (es : List Derived). AreRightSteps (rows ++ terms_of (take k ds)) es ↔ AreRightSteps rows ds) (drop_more ds k e h)
    s.rest in
    let more = one-more rows ds k e h in
    record {
      rest = (
        λ w. split.0 (r, subst (λ (ts : List LinearSum). AreRightSteps ts (drop (k + 1) ds)) more w),
        λ w. subst (λ (ts : List LinearSum). AreRightSteps ts (drop (k + 1) ds)) (sym more) (split.1 w).1,
      );
      terms = subst AreDerivedTerms (sym (take_more ds k e h)) (terms-append (take k ds) (get_or ds k e ∷ []) s.terms (t, tt));
    }

pub derived-stops : (rows : List LinearSum) (ds : List Derived) (k : ℕ) (e : Derived) → DerivedSoFar rows ds k → k < length ds →
    (¬ IsRightStep (rows ++ terms_of (take k ds)) (get_or ds k e)) → ¬ AreRightSteps rows ds
derived-stops rows ds k e s h n w =
    let split = subst (λ (es : List Derived). AreRightSteps (rows ++ terms_of (take k ds)) es ↔ AreRightSteps rows ds) (drop_more ds k e h)
    s.rest in
    n (split.1 w).0

drop_all : (ds : List Derived) (k : ℕ) → length ds ≤ k → drop k ds ≡ []
drop_all [] zero h = refl
drop_all [] (suc k) h = refl
drop_all (d ∷ ds) zero h = absurd (omega (arith, h))
drop_all (d ∷ ds) (suc k) h = drop_all ds k (omega (arith, h))

take_all : (ds : List Derived) (k : ℕ) → length ds ≤ k → take k ds ≡ ds
take_all [] zero h = refl
take_all [] (suc k) h = refl
take_all (d ∷ ds) zero h = absurd (omega (arith, h))
take_all (d ∷ ds) (suc k) h = ap (λ es. d ∷ es) (take_all ds k (omega (arith, h)))

pub derived-ends : (rows : List LinearSum) (ds : List Derived) (k : ℕ) → DerivedSoFar rows ds k → length ds ≤ k → AreRightSteps rows ds
    × AreDerivedTerms ds
derived-ends rows ds k s h = (
  s.rest.0 (subst (AreRightSteps (rows ++ terms_of (take k ds))) (sym (drop_all ds k h)) tt),
  subst AreDerivedTerms (take_all ds k h)
      s.terms,
)

-- the last row decides
pub ends-at : (ds : List Derived) (k : ℕ) (e : Derived) → length ds ≡ suc k → EndsInContradiction ds ↔
    (((get_or ds k e).row.term.parts ≡ []) × (pos 1 ≤ℤ (get_or ds k e).row.term.constant))
ends-at [] k e h = absurd (omega (arith, h))
ends-at (d ∷ []) zero e h = (λ w. w, λ w. w)
ends-at (d ∷ []) (suc k) e h = absurd (omega (arith, h))
ends-at (d ∷ f ∷ ds) zero e h = absurd (omega (arith, h))
ends-at (d ∷ f ∷ ds) (suc k) e h = ends-at (f ∷ ds) k e (omega (arith, h))

pub after-is : (rows : List LinearSum) (ds : List Derived) → rows_after rows ds ≡ rows ++ terms_of ds
after-is rows [] = sym (append-nil rows)
after-is rows (d ∷ ds) =
    after-is (rows ++ d.row.term ∷ []) ds ∙ append_assoc rows (d.row.term ∷ []) (terms_of ds)
