-- Sums of two rows of one column, which name none.
use Rattle.std.proofs.Common.{◌≡◌, inl, ℕ, ◌≤◌, ◌^◌, ◌==◌, Bool, true, false, List, [], ◌∷◌, length, ℤ, pos, ◌+ℤ◌, ◌*ℤ◌, arith, refl, sym, ap, subst, ◌∙◌}
use Rattle.std.specs.Prelude.{IsTrue, ◌≤ℤ◌, int_le, int_lt, unsigned_abs, if◌then◌else◌}
use Rattle.std.proofs.lemmas.Bool.{eq-eqb, eqb-true}
use Rattle.std.proofs.lemmas.Int.{ints}
use Rattle.linear_formula.specs.LinearSum.{LinearSum, coefficient, listed_at}
use Rattle.linear_formula.specs.steps.Order.{InOrder, AllWithin}
use Rattle.linear_formula.proofs.Limits.{IsTerm-from_test, test-from_Within}
use Rattle.shadow_elim.specs.Division.{common_divisor, tightened}
use Rattle.shadow_elim.specs.Elimination.{size_of, upper_multiple, lower_multiple, pair_sum}
use Rattle.shadow_elim.specs.Reduction.{is_trivial}
use Rattle.shadow_elim.proofs.PairSums.{IsUpper, IsLower, Balance, balance, upper-is, lower-is, order-pair_sum, pair_sum-absent, pair_sum-eliminates}
use Rattle.shadow_elim.proofs.Tests.{first_true}
use Rattle.lia_solver.specs.steps.Entries.{Entry, sum_at, bounds_above, bounds_below, ArePaired}
use Rattle.lia_solver.specs.steps.Tables.{IsSummed}
use Rattle.lia_solver.proofs.ChosenPoints.{nameless}
use Rattle.lia_solver.proofs.FirstColumns.{above-upper, below-lower}
use Rattle.lia_solver.proofs.TwoColumns.{scaled-nonpos, scaled-small, scaled-sum}

no_way : true ≡ false → ⊥
no_way h = cc

-- a row of one part names no other column
alone : (x z : ℕ) (p : ℕ × ℤ) → (x == p.0) ≡ true → (z ≡ x → ⊥) → listed_at z (p ∷ []) ≡ pos 0
alone x z p e h = by_test (z == p.0) refl where
  by_test : (b : Bool) → (z == p.0) ≡ b → (if b then p.1 else pos 0) ≡ pos 0
  by_test true f = absurd (h (eqb-true z p.0 f ∙ sym (eqb-true x p.0 e)))
  by_test false f = refl

above-alone : (x z : ℕ) (ps : List (ℕ × ℤ)) → length ps ≡ 1 → IsTrue (bounds_above x ps) → (z ≡ x → ⊥) → listed_at z ps ≡ pos 0
above-alone x z [] e h k = absurd (omega (arith, e))
above-alone x z (p ∷ []) e h k = alone x z p (first_true (x == p.0) (int_lt (pos 0) p.1) h) k
above-alone x z (p ∷ q ∷ ps) e h k = absurd (omega (arith, e))

below-alone : (x z : ℕ) (ps : List (ℕ × ℤ)) → length ps ≡ 1 → IsTrue (bounds_below x ps) → (z ≡ x → ⊥) → listed_at z ps ≡ pos 0
below-alone x z [] e h k = absurd (omega (arith, e))
below-alone x z (p ∷ []) e h k = alone x z p (first_true (x == p.0) (int_lt p.1 (pos 0)) h) k
below-alone x z (p ∷ q ∷ ps) e h k = absurd (omega (arith, e))

-- a sum of two rows of one column that always holds
pub constant-sum : (x : ℕ) (entries : List Entry) (up low : ℕ) (k : ℤ) → ArePaired x entries up low →
    length (sum_at entries up).parts ≡ 1 → length (sum_at entries low).parts ≡ 1 →
    k ≡ (pos (size_of x (sum_at entries low)) *ℤ (sum_at entries up).constant) +ℤ
    (pos (size_of x (sum_at entries up)) *ℤ (sum_at entries low).constant) →
    unsigned_abs k ≤ 2 ^ 84 → k ≤ℤ pos 0 → IsSummed x entries up low
constant-sum x entries up low k p nu nl ek hk le = record {
  within = test-from_Within t (record {
    count = subst (λ (qs : List (ℕ × ℤ)). length qs ≤ 1024) (sym none) (omega arith);
    coefficients = subst (λ (qs : List (ℕ × ℤ)). AllWithin qs) (sym none) tt;
    constant_limit = scaled-small g (2 ^ 84) t.constant b.divisor (subst (λ (z : ℤ). unsigned_abs z ≤ 2 ^ 84) multiple hk);
  });
  held = inl (trivial (ap (λ (ps : List (ℕ × ℤ)). record { parts = ps; constant = t.constant }) none));
} where
  u : LinearSum
  u = sum_at entries up

  l : LinearSum
  l = sum_at entries low

  ou : InOrder 0 u.parts
  ou = (IsTerm-from_test u (p.terms.greatest up p.upper_place)).order

  ol : InOrder 0 l.parts
  ol = (IsTerm-from_test l (p.terms.greatest low p.lower_place)).order

  iu : IsUpper x u
  iu = upper-is x u (above-upper x u p.above)

  il : IsLower x l
  il = lower-is x l (below-lower x l p.below)

  g : ℕ
  g = common_divisor (size_of x u) (size_of x l)

  m : ℕ
  m = upper_multiple (size_of x u) (size_of x l)

  n : ℕ
  n = lower_multiple (size_of x u) (size_of x l)

  b : Balance (size_of x u) (size_of x l) m n g
  b = balance (size_of x u) (size_of x l) iu.positive il.positive

  t : LinearSum
  t = pair_sum x (u, l)

  absent : (z : ℕ) → coefficient z t ≡ pos 0
  absent z = by_first (z == x) refl where
    by_first : (q : Bool) → (z == x) ≡ q → coefficient z t ≡ pos 0
    by_first true e =
        subst (λ (w : ℕ). coefficient w t ≡ pos 0) (sym (eqb-true z x e)) (pair_sum-eliminates x u l ou ol iu il)
    by_first false e =
        let apart : z ≡ x → ⊥ = λ r. no_way (sym (eq-eqb z x r) ∙ e) in
        pair_sum-absent z x u l ou ol (above-alone x z u.parts nu p.above apart) (below-alone x z l.parts nl p.below apart)

  none : t.parts ≡ []
  none = nameless 0 t.parts (order-pair_sum x u l ou ol) absent

  constant-is : t.constant ≡ (pos m *ℤ u.constant) +ℤ (pos n *ℤ l.constant)
  constant-is = plus-none (pos m *ℤ u.constant) (pos n *ℤ l.constant) where
    plus-none : (v w : ℤ) → v +ℤ (w +ℤ pos 0) ≡ v +ℤ w
    plus-none v w = omega (arith, ints)

  multiple : k ≡ pos g *ℤ t.constant
  multiple = ek ∙ scaled-sum g m n (size_of x u) (size_of x l) u.constant l.constant b.first b.second
      ∙ ap (λ z. pos g *ℤ z) (sym constant-is)

  low-constant : t.constant ≤ℤ pos 0
  low-constant = scaled-nonpos g t.constant b.divisor (subst (λ (z : ℤ). z ≤ℤ pos 0) multiple le)

  trivial : t ≡ record { parts = []; constant = t.constant } → is_trivial (tightened t) ≡ true
  trivial f = ap (λ r. is_trivial (tightened r)) f ∙ at-most t.constant low-constant where
    at-most : (z : ℤ) → z ≤ℤ pos 0 → int_le z (pos 0) ≡ true
    at-most z h = grind (arith, ints)
