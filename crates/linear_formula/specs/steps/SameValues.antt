-- The tests say whether the values are equal.
use Rattle.std.proofs.Common.{◌≡◌, ℕ, ◌==◌, ◌&&◌, Bool, true, List, ℤ, ap, sym, ◌∙◌}
use Rattle.std.specs.Bool.{Decides}
use Rattle.std.specs.Cmp.{IsPartialEquivalence, decided, partial_equiv_from_equiv, unsigned_Decides, signed_Decides, first_so, second_so}
use Rattle.std.specs.Cmp.Lexicographic.{pointwise_decides}
use Rattle.std.specs.Ordering.{int_eq}
use Rattle.linear_formula.specs.LinearSum.{LinearSum}
use Rattle.linear_formula.specs.declared.formula.Atom.{Atom}
use Rattle.linear_formula.specs.declared.formula.Cube.{Cube}
use Rattle.linear_formula.specs.Equality.{same_part, same_parts, same_sum, same_atom, same_atoms, same_summand, same_summands, same_columns}

-- two tests, each of a part
decides_both : {A B C : Type 0} (r s : Bool) (a b : A) (c d : B) (x y : C) → Decides r (a ≡ b) →
    Decides s (c ≡ d) → (a ≡ b → c ≡ d → x ≡ y) → (x ≡ y → a ≡ b) → (x ≡ y → c ≡ d) →
    Decides (r && s) (x ≡ y)
decides_both r s a b c d x y h k whole first second = (
  λ e. whole (h.0 (first_so r s e)) (k.0 (second_so r s e)),
  λ e. both_so r s (h.1 (first e))
      (k.1 (second e)),
) where
  both_so : (r s : Bool) → r ≡ true → s ≡ true → (r && s) ≡ true
  both_so r s d e = ap (λ b. b && s) d ∙ e

pub part-same : (p q : ℕ × ℤ) → Decides (same_part p q) (p ≡ q)
part-same p q =
    decides_both (p.0 == q.0) (int_eq p.1 q.1) p.0 q.0 p.1 q.1 p q (unsigned_Decides p.0 q.0)
    (signed_Decides p.1 q.1) (λ d e. λ i. (d i, e i)) (ap (λ r. r.0)) (ap (λ r. r.1))

pub parts-same : (ps qs : List (ℕ × ℤ)) → Decides (same_parts ps qs) (ps ≡ qs)
parts-same = pointwise_decides part-same

pub sum-same : (t u : LinearSum) → Decides (same_sum t u) (t ≡ u)
sum-same t u =
    decides_both (same_parts t.parts u.parts) (int_eq t.constant u.constant) t.parts u.parts
    t.constant u.constant t u (parts-same t.parts u.parts) (signed_Decides t.constant u.constant)
    (λ d e. λ i. record { parts = d i; constant = e i }) (ap (λ s. s.parts)) (ap (λ s. s.constant))

pub atom-same : (a b : Atom) → Decides (same_atom a b) (a ≡ b)
atom-same a b =
    let h = sum-same a.term b.term in
    (λ e. (λ i. record { term = h.0 e i }), λ e. h.1 (ap (λ (c : Atom). c.term) e))

pub atoms-same : (as_ bs : List Atom) → Decides (same_atoms as_ bs) (as_ ≡ bs)
atoms-same = pointwise_decides atom-same

pub cube-same : (c d : Cube) → Decides (same_atoms c.atoms d.atoms) (c ≡ d)
cube-same c d =
    let h = atoms-same c.atoms d.atoms in
    (λ e. (λ i. record { atoms = h.0 e i }), λ e. h.1 (ap (λ (k : Cube). k.atoms) e))

pub summand-same : (s r : ℤ × LinearSum) → Decides (same_summand s r) (s ≡ r)
summand-same s r =
    decides_both (int_eq s.0 r.0) (same_sum s.1 r.1) s.0 r.0 s.1 r.1 s r (signed_Decides s.0 r.0)
    (sum-same s.1 r.1) (λ d e. λ i. (d i, e i)) (ap (λ q. q.0)) (ap (λ q. q.1))

pub summands-same : (ss rs : List (ℤ × LinearSum)) → Decides (same_summands ss rs) (ss ≡ rs)
summands-same = pointwise_decides summand-same

pub columns-same : (xs ys : List ℕ) → Decides (same_columns xs ys) (xs ≡ ys)
columns-same = pointwise_decides unsigned_Decides

-- the laws of a comparison that decides
pub partial : {K : Type 0} (test : K → K → Bool) → ((x y : K) → Decides (test x y) (x ≡ y)) →
    IsPartialEquivalence test
partial test h = partial_equiv_from_equiv (decided test h)

-- the answer of a test that decides
pub says : {P : Type 0} (r t : Bool) → r ≡ t → Decides t P → (r ≡ true → P) × (P → r ≡ true)
says r t e h = (λ d. h.0 (sym e ∙ d), λ p. e ∙ h.1 p)
