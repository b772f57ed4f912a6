-- How rows are split by a column, one after the other.
use Rattle.std.proofs.Common.{◌≡◌, ℕ, Bool, true, false, cond, List, [], ◌∷◌, ◌++◌, ℤ, pos, negsuc, zero, suc, FitsSigned, to_z, of_z, to_z-of_z, arith, refl, sym, ap, ◌∙◌}
use Rattle.std.specs.Int.{w128}
use Rattle.std.specs.Prelude.{IsTrue, ◌≤ℤ◌, ◌<ℤ◌, int_lt, filter}
use Rattle.std.proofs.lemmas.Int.{ints}
use Rattle.std.proofs.lemmas.List.Elements.{filter-append}
use Rattle.linear_formula.specs.LinearSum.{coefficient, is_zero, is_term}
use Rattle.shadow_elim.specs.declared.row.Row.{Row}
use Rattle.shadow_elim.specs.Elimination.{is_upper, is_lower, is_free}
use Rattle.shadow_elim.specs.steps.Making.{uppers, lowers, frees, AreTerms}
use Rattle.shadow_elim.proofs.Tests.{lt_from, lt_no, lt_yes}

-- One more element

pub filter_in : {X : Type 0} (p : X → Bool) (xs : List X) (x : X) → p x ≡ true → filter p (xs ++ x ∷ []) ≡ filter p xs ++ x ∷ []
filter_in {X = X} p xs x e =
    filter-append p xs (x ∷ []) ∙ ap (λ (b : Bool). filter p xs ++ cond b (x ∷ []) []) e

pub filter_out : {X : Type 0} (p : X → Bool) (xs : List X) (x : X) → p x ≡ false → filter p (xs ++ x ∷ []) ≡ filter p xs
filter_out {X = X} p xs x e =
    filter-append p xs (x ∷ []) ∙ (ap (λ (b : Bool). filter p xs ++ cond b (x ∷ []) []) e ∙ append_none (filter p xs)) where
      append_none : (ys : List X) → ys ++ [] ≡ ys
      append_none [] = refl
      append_none (y ∷ ys) = ap (λ (zs : List X). y ∷ zs) (append_none ys)

terms-push : (rows : List Row) (r : Row) → AreTerms rows → IsTrue (is_term r.term) → AreTerms (rows ++ r ∷ [])
terms-push [] r h k = (k, tt)
terms-push (q ∷ rows) r h k = (h.0, terms-push rows r h.1 k)

-- Signs

-- the tests of the code
pub not_below_from : (y z : ℤ) → int_lt y z ≡ false → z ≤ℤ y
not_below_from y z e = grind (arith, ints)

pub positive_from : (z : ℤ) → FitsSigned w128 z → int_lt (pos 0) (to_z w128 (of_z w128 z)) ≡ true → pos 0 <ℤ z
positive_from z f e =
    lt_from (pos 0) z (ap (λ (y : ℤ). int_lt (pos 0) y) (sym (to_z-of_z f)) ∙ e)

pub negative_from : (z : ℤ) → FitsSigned w128 z → int_lt (to_z w128 (of_z w128 z)) (pos 0) ≡ true → z <ℤ pos 0
negative_from z f e =
    lt_from z (pos 0) (ap (λ (y : ℤ). int_lt y (pos 0)) (sym (to_z-of_z f)) ∙ e)

pub not_positive_from : (z : ℤ) → FitsSigned w128 z → int_lt (pos 0) (to_z w128 (of_z w128 z)) ≡ false → z ≤ℤ pos 0
not_positive_from z f e =
    not_below_from (pos 0) z (ap (λ (y : ℤ). int_lt (pos 0) y) (sym (to_z-of_z f)) ∙ e)

pub not_negative_from : (z : ℤ) → FitsSigned w128 z → int_lt (to_z w128 (of_z w128 z)) (pos 0) ≡ false → pos 0 ≤ℤ z
not_negative_from z f e =
    not_below_from z (pos 0) (ap (λ (y : ℤ). int_lt y (pos 0)) (sym (to_z-of_z f)) ∙ e)

not_zero : (z : ℤ) → (z ≡ pos 0 → ⊥) → is_zero z ≡ false
not_zero (pos zero) h = absurd (h refl)
not_zero (pos (suc n)) h = refl
not_zero (negsuc n) h = refl

-- The rows so far by their relation to the column

pub record IsSplit (x : ℕ) (rows us ls fs : List Row) : Type 0 where
  pub uppers : us ≡ uppers x rows
  pub lowers : ls ≡ lowers x rows
  pub free : fs ≡ frees x rows
  pub terms : AreTerms rows

pub split-upper : (x : ℕ) (rows us ls fs : List Row) (r : Row) (z : ℤ) (next : List Row) → IsSplit x rows us ls fs →
    IsTrue (is_term r.term) →
    z ≡ coefficient x r.term → pos 0 <ℤ z → next ≡ us ++ r ∷ [] → IsSplit x (rows ++ r ∷ []) next ls fs
split-upper x rows us ls fs r z next s t e h n = record {
  uppers = n ∙ (ap (λ (qs : List Row). qs ++ r ∷ []) s.uppers
      ∙ sym (filter_in (λ (q : Row). is_upper x q.term) rows r (ap (λ (y : ℤ). int_lt (pos 0) y) (sym e) ∙ lt_yes (pos 0) z h)));
  lowers = s.lowers ∙ sym (filter_out (λ (q : Row). is_lower x q.term) rows r (ap (λ (y : ℤ). int_lt y (pos 0)) (sym e)
      ∙ lt_no z (pos 0) (omega (arith, ints, h))));
  free = s.free ∙ sym (filter_out (λ (q : Row). is_free x q.term) rows r
      (ap is_zero (sym e) ∙ not_zero z (λ k. omega (arith, ints, h, k))));
  terms = terms-push rows r s.terms t;
}

pub split-lower : (x : ℕ) (rows us ls fs : List Row) (r : Row) (z : ℤ) (next : List Row) → IsSplit x rows us ls fs →
    IsTrue (is_term r.term) →
    z ≡ coefficient x r.term → z <ℤ pos 0 → next ≡ ls ++ r ∷ [] → IsSplit x (rows ++ r ∷ []) us next fs
split-lower x rows us ls fs r z next s t e h n = record {
  uppers = s.uppers ∙ sym (filter_out (λ (q : Row). is_upper x q.term) rows r (ap (λ (y : ℤ). int_lt (pos 0) y) (sym e) ∙ lt_no (pos 0)
      z (omega (arith, ints, h))));
  lowers = n ∙ (ap (λ (qs : List Row). qs ++ r ∷ []) s.lowers
      ∙ sym (filter_in (λ (q : Row). is_lower x q.term) rows r (ap (λ (y : ℤ). int_lt y (pos 0)) (sym e) ∙ lt_yes z (pos 0) h)));
  free = s.free ∙ sym (filter_out (λ (q : Row). is_free x q.term) rows r
      (ap is_zero (sym e) ∙ not_zero z (λ k. omega (arith, ints, h, k))));
  terms = terms-push rows r s.terms t;
}

pub split-free : (x : ℕ) (rows us ls fs : List Row) (r : Row) (z : ℤ) (next : List Row) → IsSplit x rows us ls fs →
    IsTrue (is_term r.term) →
    z ≡ coefficient x r.term → z ≤ℤ pos 0 → pos 0 ≤ℤ z → next ≡ fs ++ r ∷ [] → IsSplit x (rows ++ r ∷ []) us ls next
split-free x rows us ls fs r z next s t e h k n = record {
  uppers = s.uppers ∙ sym (filter_out (λ (q : Row). is_upper x q.term) rows r (ap (λ (y : ℤ). int_lt (pos 0) y) (sym e) ∙ lt_no (pos 0)
      z h));
  lowers = s.lowers ∙ sym (filter_out (λ (q : Row). is_lower x q.term) rows r (ap (λ (y : ℤ). int_lt y (pos 0)) (sym e)
      ∙ lt_no z (pos 0) k));
  free = n ∙ (ap (λ (qs : List Row). qs ++ r ∷ []) s.free
      ∙ sym (filter_in (λ (q : Row). is_free x q.term) rows r (ap is_zero (sym e ∙ zero_is))));
  terms = terms-push rows r s.terms t;
} where
  zero_is : z ≡ pos 0
  zero_is = omega (arith, ints, h, k)
