-- The rows after an elimination are terms, and name none of its columns.
use Rattle.std.proofs.Common.{◌≡◌, ◌⊎◌, inl, inr, ℕ, ◌<◌, ◌^◌, List, [], ◌∷◌, pos, arith, refl, subst}
use Rattle.std.specs.Prelude.{IsTrue, All}
use Rattle.std.proofs.lemmas.List.Elements.{All-nil, All-cons, All-head, All-tail}
use Rattle.linear_formula.specs.LinearSum.{LinearSum, coefficient, is_term}
use Rattle.linear_formula.specs.steps.Order.{InOrder}
use Rattle.linear_formula.specs.Formula.{are_terms}
use Rattle.linear_formula.specs.declared.formula.Atom.{Atom}
use Rattle.linear_formula.proofs.Limits.{both, IsTerm-from_test, test-from_IsTerm}
use Rattle.infeasible_cert.specs.Right.{rows_of, range_rows, upper_range, lower_range}
use Rattle.shadow_elim.specs.declared.row.Row.{Row}
use Rattle.shadow_elim.specs.Elimination.{pair_sum, remains, elimination, listed_rows}
use Rattle.shadow_elim.specs.Stages.{terms_of}
use Rattle.shadow_elim.specs.steps.Making.{AreTerms}
use Rattle.shadow_elim.specs.Shadows.{NamesNone}
use Rattle.shadow_elim.proofs.Tightening.{tightened-term, tightened-absent}
use Rattle.shadow_elim.proofs.PairSums.{pair_sum-term, pair_sum-absent, pair_sum-eliminates, upper-is, lower-is, free-is}
use Rattle.shadow_elim.proofs.Members.{Among, among-append_cases, contains-among}
use Rattle.shadow_elim.proofs.Keeping.{IsAfter, IsFreeIn, IsMadeOf, after-is, elimination-first, remains-same}

-- Terms

-- each row is a term
abbrev pub AllTerms : List LinearSum → Type 0
AllTerms rows = (t : LinearSum) → Among t rows → IsTrue (is_term t)

pub terms-from_rows : (rows : List Row) → AreTerms rows → AllTerms (terms_of rows)
terms-from_rows [] h t k = absurd k
terms-from_rows (r ∷ rows) h t (inl e) = subst (λ (s : LinearSum). IsTrue (is_term s)) e h.0
terms-from_rows (r ∷ rows) h t (inr k) = terms-from_rows rows h.1 t k

pub atoms-terms : (atoms : List Atom) → IsTrue (are_terms atoms) → AllTerms (rows_of atoms)
atoms-terms [] h t k = absurd k
atoms-terms (a ∷ atoms) h t (inl e) =
    subst (λ (s : LinearSum). IsTrue (is_term s)) e (both (is_term a.term) (are_terms atoms) h).0
atoms-terms (a ∷ atoms) h t (inr k) = atoms-terms atoms (both (is_term a.term) (are_terms atoms) h).1 t k

upper-term : (x : ℕ) → x < 2 ^ 32 → IsTrue (is_term (upper_range x))
upper-term x h = test-from_IsTerm (upper_range x) (record {
  order = (omega arith, h, (λ e. cc), tt);
  within = record { count = omega arith; coefficients = (omega arith, tt); constant_limit = omega arith };
})

lower-term : (x : ℕ) → x < 2 ^ 32 → IsTrue (is_term (lower_range x))
lower-term x h = test-from_IsTerm (lower_range x) (record {
  order = (omega arith, h, (λ e. cc), tt);
  within = record { count = omega arith; coefficients = (omega arith, tt); constant_limit = omega arith };
})

pub ranges-terms : (xs : List ℕ) → All (λ x. x < 2 ^ 32) xs → AllTerms (range_rows xs)
ranges-terms [] h t k = absurd k
ranges-terms (x ∷ xs) h t (inl e) =
    subst (λ (s : LinearSum). IsTrue (is_term s)) e (upper-term x (All-head (λ y. y < 2 ^ 32) x xs h))
ranges-terms (x ∷ xs) h t (inr (inl e)) =
    subst (λ (s : LinearSum). IsTrue (is_term s)) e (lower-term x (All-head (λ y. y < 2 ^ 32) x xs h))
ranges-terms (x ∷ xs) h t (inr (inr k)) = ranges-terms xs (All-tail (λ y. y < 2 ^ 32) x xs h) t k

pub listed-terms : (atoms : List Atom) (columns : List ℕ) → IsTrue (are_terms atoms) → All (λ x. x < 2 ^ 32) columns →
    AllTerms (listed_rows atoms columns)
listed-terms atoms columns h k t m = by_side (among-append_cases (rows_of atoms) (range_rows columns) t m) where
  by_side : Among t (rows_of atoms) ⊎ Among t (range_rows columns) → IsTrue (is_term t)
  by_side (inl i) = atoms-terms atoms h t i
  by_side (inr i) = ranges-terms columns k t i

pub after-terms : (x : ℕ) (rows next : List LinearSum) → IsAfter x rows next → AllTerms rows → AllTerms next
after-terms x rows next a h t k = by_origin (a.from t k) where
  by_origin : IsFreeIn x rows t ⊎ IsMadeOf x rows t → IsTrue (is_term t)
  by_origin (inl f) = h t f.here
  by_origin (inr m) =
      subst (λ (s : LinearSum). IsTrue (is_term s)) m.same (tightened-term (pair_sum x (m.first, m.second))
      (pair_sum-term x m.first m.second (h m.first m.pair.upper) (h m.second m.pair.lower) (a.within m.first m.second m.pair)))

-- the rows that are left are terms
pub elimination-terms : (xs : List ℕ) (rows left : List LinearSum) → elimination xs rows ≡ remains left → AllTerms rows → AllTerms left
elimination-terms [] rows left h k = subst AllTerms (remains-same rows left h) k
elimination-terms (x ∷ xs) rows left h k =
    let f = elimination-first x xs rows left h in
    elimination-terms xs f.next left f.others (after-terms x rows f.next (after-is x rows f.next f.column) k)

-- Columns that no row names

abbrev pub IsAbsent : ℕ → List LinearSum → Type 0
IsAbsent y rows = (t : LinearSum) → Among t rows → coefficient y t ≡ pos 0

pub term-order : (rows : List LinearSum) (t : LinearSum) → AllTerms rows → Among t rows → InOrder 0 t.parts
term-order rows t h k = (IsTerm-from_test t (h t k)).order

-- a column that no row names stays absent
pub after-absent : (y x : ℕ) (rows next : List LinearSum) → IsAfter x rows next → AllTerms rows → IsAbsent y rows → IsAbsent y next
after-absent y x rows next a h n t k = by_origin (a.from t k) where
  by_origin : IsFreeIn x rows t ⊎ IsMadeOf x rows t → coefficient y t ≡ pos 0
  by_origin (inl f) = n t f.here
  by_origin (inr m) =
      subst (λ (s : LinearSum). coefficient y s ≡ pos 0) m.same (tightened-absent y (pair_sum x (m.first, m.second))
      (pair_sum-absent y x m.first m.second (term-order rows m.first h m.pair.upper) (term-order rows m.second h m.pair.lower)
      (n m.first m.pair.upper) (n m.second m.pair.lower)))

-- and the column that is eliminated is
pub after-eliminated : (x : ℕ) (rows next : List LinearSum) → IsAfter x rows next → AllTerms rows → IsAbsent x next
after-eliminated x rows next a h t k = by_origin (a.from t k) where
  by_origin : IsFreeIn x rows t ⊎ IsMadeOf x rows t → coefficient x t ≡ pos 0
  by_origin (inl f) = free-is x t f.free
  by_origin (inr m) =
      subst (λ (s : LinearSum). coefficient x s ≡ pos 0) m.same (tightened-absent x (pair_sum x (m.first, m.second))
      (pair_sum-eliminates x m.first m.second (term-order rows m.first h m.pair.upper) (term-order rows m.second h m.pair.lower)
      (upper-is x m.first m.pair.is_upper) (lower-is x m.second m.pair.is_lower)))

pub elimination-absent : (y : ℕ) (xs : List ℕ) (rows left : List LinearSum) → elimination xs rows ≡ remains left → AllTerms rows →
    IsAbsent y rows → IsAbsent y left
elimination-absent y [] rows left h k n = subst (IsAbsent y) (remains-same rows left h) n
elimination-absent y (x ∷ xs) rows left h k n =
    let f = elimination-first x xs rows left h in
    let a = after-is x rows f.next f.column in
    elimination-absent y xs f.next left f.others (after-terms x rows f.next a k) (after-absent y x rows f.next a k n)

pub elimination-eliminates : (y : ℕ) (xs : List ℕ) (rows left : List LinearSum) → elimination xs rows ≡ remains left → AllTerms rows →
    Among y xs → IsAbsent y left
elimination-eliminates y [] rows left h k m = absurd m
elimination-eliminates y (x ∷ xs) rows left h k (inl e) =
    let f = elimination-first x xs rows left h in
    let a = after-is x rows f.next f.column in
    subst (λ (z : ℕ). IsAbsent z left) e (elimination-absent x xs f.next left f.others (after-terms x rows f.next a k)
    (after-eliminated x rows f.next a k))
elimination-eliminates y (x ∷ xs) rows left h k (inr m) =
    let f = elimination-first x xs rows left h in
    elimination-eliminates y xs f.next left f.others (after-terms x rows f.next (after-is x rows f.next f.column) k) m

pub absent-atoms : (y : ℕ) (atoms : List Atom) → IsAbsent y (rows_of atoms) → All (λ a. coefficient y a.term ≡ pos 0) atoms
absent-atoms y [] n = All-nil (λ a. coefficient y a.term ≡ pos 0)
absent-atoms y (a ∷ atoms) n =
    All-cons (λ b. coefficient y b.term ≡ pos 0) a atoms (n a.term (inl refl)) (absent-atoms y atoms (λ t k. n t (inr k)))

pub names-none : (columns : List ℕ) (rows : List LinearSum) (shadow : List Atom) → elimination columns rows ≡ remains (rows_of shadow) →
    AllTerms rows → NamesNone columns shadow
names-none columns rows shadow h k = λ x c.
    absent-atoms x shadow (elimination-eliminates x columns rows (rows_of shadow) h k (contains-among columns x c))
