-- The sums of pairs: their values, their coefficients, and what the rest of each row owes.
use Rattle.std.proofs.Common.{◌≡◌, ℕ, suc, zero, ◌<◌, ◌+◌, ◌*◌, ◌/◌, ◌%◌, ◌==◌, Bool, true, false, List, [], ◌∷◌, ℤ, pos, negsuc, ◌+ℤ◌, ◌*ℤ◌, neg_ℤ, arith, refl, sym, ap, ◌∙◌}
use Rattle.std.specs.Prelude.{IsTrue, ◌≤ℤ◌, unsigned_abs, int_lt, if◌then◌else◌}
use Rattle.std.proofs.lemmas.Int.{ints}
use Rattle.std.proofs.lemmas.Nat.Gcd.{mod-eq-zero_of_dvd}
use Rattle.std.proofs.Math.Nat.{eq-zero_of_zero-dvd}
use Prim.Native.Nat.{◌∣◌}
use borrow.Author.Tests.{eqb-true}
use Rattle.linear_formula.specs.LinearSum.{LinearSum, Valuation, value_of, value_of_parts, listed_at, coefficient, is_term, is_within}
use Rattle.linear_formula.specs.steps.Order.{InOrder}
use Rattle.linear_formula.specs.Results.{without_part, without_column, valuation_with}
use Rattle.linear_formula.proofs.Ring.{mul-add, mul-zero, zero-mul, mul-assoc, mul-step, add-mul}
use Rattle.linear_formula.proofs.Order.{zero_is}
use Rattle.linear_formula.proofs.Limits.{IsTerm-from_test, test-from_IsTerm, Within-from_test}
use Rattle.linear_formula.proofs.Values.{value-combination, value-valuation_with, listed-none}
use Rattle.linear_formula.proofs.Combinations.{InOrder-combination, coefficient-combination}
use Rattle.infeasible_cert.proofs.Signs.{mul_nonpos}
use Rattle.shadow_elim.specs.Division.{common_divisor}
use Rattle.shadow_elim.specs.Elimination.{is_upper, is_lower, is_free, size_of, upper_multiple, lower_multiple, multiples, pair_sum}
use Rattle.shadow_elim.proofs.Tightening.{mul-neg, divides-common}

-- Signs of coefficients

pub record IsUpper (x : ℕ) (t : LinearSum) : Type 0 where
  pub positive : 0 < size_of x t
  pub same : coefficient x t ≡ pos (size_of x t)

pub record IsLower (x : ℕ) (t : LinearSum) : Type 0 where
  pub positive : 0 < size_of x t
  pub same : coefficient x t ≡ neg_ℤ (pos (size_of x t))

pub upper-is : (x : ℕ) (t : LinearSum) → IsTrue (is_upper x t) → IsUpper x t
upper-is x t h = record { positive = (by_sign (coefficient x t) h).0; same = (by_sign (coefficient x t) h).1 } where
  by_sign : (a : ℤ) → IsTrue (int_lt (pos 0) a) → (0 < unsigned_abs a) × (a ≡ pos (unsigned_abs a))
  by_sign (pos zero) h = absurd (cc)
  by_sign (pos (suc n)) h = (omega arith, refl)
  by_sign (negsuc n) h = absurd (cc)

pub lower-is : (x : ℕ) (t : LinearSum) → IsTrue (is_lower x t) → IsLower x t
lower-is x t h = record { positive = (by_sign (coefficient x t) h).0; same = (by_sign (coefficient x t) h).1 } where
  by_sign : (a : ℤ) → IsTrue (int_lt a (pos 0)) → (0 < unsigned_abs a) × (a ≡ neg_ℤ (pos (unsigned_abs a)))
  by_sign (pos n) h = absurd (grind (arith, ints))
  by_sign (negsuc n) h = (omega arith, refl)

pub free-is : (x : ℕ) (t : LinearSum) → IsTrue (is_free x t) → coefficient x t ≡ pos 0
free-is x t h = zero_is (coefficient x t) h

-- The multiples m = b / g and n = a / g

pub record Balance (a b m n g : ℕ) : Type 0 where
  pub divisor : 0 < g
  pub first : g * m ≡ b
  pub second : g * n ≡ a
  pub balanced : m * a ≡ n * b

pub balance : (a b : ℕ) → 0 < a → 0 < b → Balance a b (upper_multiple a b) (lower_multiple a b) (common_divisor a b)
balance a b h k =
    let d = divides-common a b in
    let p = positive (common_divisor a b) d.0 in
    let f = exact (common_divisor a b) b p d.1 in
    let s = exact (common_divisor a b) a p d.0 in
    record {
      divisor = p;
      first = f;
      second = s;
      balanced = ap (λ z. upper_multiple a b * z) (sym s) ∙ turned (upper_multiple a b) (common_divisor a b) (lower_multiple a b)
          ∙ ap (λ z. lower_multiple a b * z) f;
    } where
      positive : (g : ℕ) → g ∣ a → 0 < g
      positive zero e = absurd (omega (arith, h, eq-zero_of_zero-dvd e))
      positive (suc g) e = omega arith

      exact : (g c : ℕ) → 0 < g → g ∣ c → g * (c / g) ≡ c
      exact g c p e =
          let r : c % g ≡ 0 = mod-eq-zero_of_dvd g e in
          omega (arith, r)

      turned : (m g n : ℕ) → m * (g * n) ≡ n * (g * m)
      turned m g n = grind arith

pub multiple-positive : (a g m : ℕ) → 0 < a → g * m ≡ a → 0 < m
multiple-positive a g zero h e = absurd (omega (arith, h, e))
multiple-positive a g (suc m) h e = omega arith

-- Values

pub value-pair_sum : (v : Valuation) (x : ℕ) (u l : LinearSum) → value_of v (pair_sum x (u, l))
    ≡ (pos (upper_multiple (size_of x u) (size_of x l)) *ℤ value_of v u) +ℤ (pos (lower_multiple (size_of x u) (size_of x l)) *ℤ value_of v
    l)
value-pair_sum v x u l = value-combination v (multiples x (u, l)) (pos 0) ∙ omega (arith, ints)

-- both rows give the sum
pub pair_sum-met : (v : Valuation) (x : ℕ) (u l : LinearSum) → value_of v u ≤ℤ pos 0 → value_of v l ≤ℤ pos 0 →
    value_of v (pair_sum x (u, l)) ≤ℤ pos 0
pair_sum-met v x u l h k =
    let m = upper_multiple (size_of x u) (size_of x l) in
    let n = lower_multiple (size_of x u) (size_of x l) in
    omega (
      arith,
      ints,
      value-pair_sum v x u l,
      mul_nonpos (pos m) (value_of v u) (omega (arith, ints)) h,
      mul_nonpos (pos n) (value_of v l)
          (omega (arith, ints)) k,
    )

-- Coefficients

pub coefficient-pair_sum : (y x : ℕ) (u l : LinearSum) → InOrder 0 u.parts → InOrder 0 l.parts → coefficient y (pair_sum x (u, l))
    ≡ (pos (upper_multiple (size_of x u) (size_of x l)) *ℤ coefficient y u) +ℤ (pos (lower_multiple (size_of x u) (size_of x l)) *ℤ
    coefficient y l)
coefficient-pair_sum y x u l o r =
    coefficient-combination y (multiples x (u, l)) (pos 0) (o, (r, tt)) ∙ omega (arith, ints)

pub order-pair_sum : (x : ℕ) (u l : LinearSum) → InOrder 0 u.parts → InOrder 0 l.parts → InOrder 0 (pair_sum x (u, l)).parts
order-pair_sum x u l o r = InOrder-combination (multiples x (u, l)) (pos 0) (o, (r, tt))

-- the column falls out
pub pair_sum-eliminates : (x : ℕ) (u l : LinearSum) → InOrder 0 u.parts → InOrder 0 l.parts → IsUpper x u → IsLower x l →
    coefficient x (pair_sum x (u, l)) ≡ pos 0
pair_sum-eliminates x u l o r h k =
    coefficient-pair_sum x x u l o r ∙ falls_out (size_of x u) (size_of x l) (upper_multiple (size_of x u) (size_of x l))
    (lower_multiple (size_of x u) (size_of x l)) (coefficient x u) (coefficient x l) (balance (size_of x u) (size_of x l) h.positive
    k.positive).balanced h.same k.same where
      falls_out : (a b m n : ℕ) (c d : ℤ) → m * a ≡ n * b → c ≡ pos a → d ≡ neg_ℤ (pos b) → (pos m *ℤ c) +ℤ (pos n *ℤ d) ≡ pos 0
      falls_out a b m n c d e f g =
          omega (arith, ints, e, ap (λ z. pos m *ℤ z) f, ap (λ z. pos n *ℤ z) g, mul-neg (pos n) (pos b))

-- a sum names no column that neither row names
pub pair_sum-absent : (y x : ℕ) (u l : LinearSum) → InOrder 0 u.parts → InOrder 0 l.parts → coefficient y u ≡ pos 0 → coefficient y l
    ≡ pos 0 → coefficient y (pair_sum x (u, l)) ≡ pos 0
pair_sum-absent y x u l o r h k =
    let m = pos (upper_multiple (size_of x u) (size_of x l)) in
    let n = pos (lower_multiple (size_of x u) (size_of x l)) in
    omega (arith, ints, coefficient-pair_sum y x u l o r, ap (λ z. m *ℤ z) h, ap (λ z. n *ℤ z) k, mul-zero m, mul-zero n)

-- Terms

pub pair_sum-term : (x : ℕ) (u l : LinearSum) → IsTrue (is_term u) → IsTrue (is_term l) → IsTrue (is_within (pair_sum x (u, l))) →
    IsTrue (is_term (pair_sum x (u, l)))
pair_sum-term x u l h k w = test-from_IsTerm (pair_sum x (u, l)) (record {
  order = order-pair_sum x u l (IsTerm-from_test u h).order (IsTerm-from_test l k).order;
  within = Within-from_test (pair_sum x (u, l)) w;
})

-- The rest of a row, without the column

abbrev pub rest_at : Valuation → ℕ → LinearSum → ℤ
rest_at v x t = value_of v (without_column x t)

pub value-with_column : (v : Valuation) (x : ℕ) (z : ℤ) (t : LinearSum) → InOrder 0 t.parts → value_of (valuation_with v x z) t
    ≡ (coefficient x t *ℤ z) +ℤ rest_at v x t
value-with_column v x z t o = omega (arith, ints, value-valuation_with v x z 0 t.parts o)

pub value-split : (v : Valuation) (x : ℕ) (t : LinearSum) → InOrder 0 t.parts → value_of v t ≡ (coefficient x t *ℤ v x) +ℤ rest_at v x t
value-split v x t o = omega (arith, ints, split 0 t.parts o) where
  split : (low : ℕ) (ps : List (ℕ × ℤ)) → InOrder low ps → value_of_parts v ps ≡ (listed_at x ps *ℤ v x) +ℤ value_of_parts v
      (without_part x ps)
  split low [] o = omega (arith, ints, zero-mul (v x))
  split low (p ∷ ps) o =
      by_test (x == p.0) refl (split (p.0 + 1) ps o.3) where
        by_test : (b : Bool) → (x == p.0) ≡ b → value_of_parts v ps ≡ (listed_at x ps *ℤ v x) +ℤ value_of_parts v (without_part x ps) →
            (p.1 *ℤ v p.0) +ℤ value_of_parts v ps ≡ ((if b then p.1 else listed_at x ps) *ℤ v x) +ℤ value_of_parts v
            (if b then without_part x ps else (p ∷ without_part x ps))
        by_test true e h =
            let same = eqb-true x p.0 e in
            let none : listed_at x ps ≡ pos 0 = listed-none x (p.0 + 1) ps (omega (arith, same)) o.3 in
            omega (arith, ints, h, ap (λ y. y *ℤ v x) none, zero-mul (v x), ap (λ y. p.1 *ℤ v y) same)
        by_test false e h = omega (arith, ints, h)

-- the sum of a pair is that of the rests
pub rests-of_pair : (v : Valuation) (x : ℕ) (u l : LinearSum) → InOrder 0 u.parts → InOrder 0 l.parts → IsUpper x u → IsLower x l →
    value_of v (pair_sum x (u, l)) ≡ (pos (upper_multiple (size_of x u) (size_of x l)) *ℤ rest_at v x u) +ℤ
    (pos (lower_multiple (size_of x u) (size_of x l)) *ℤ rest_at v x l)
rests-of_pair v x u l o r h k =
    value-pair_sum v x u l ∙ only_rests (size_of x u) (size_of x l) (upper_multiple (size_of x u) (size_of x l))
    (lower_multiple (size_of x u) (size_of x l)) (coefficient x u) (coefficient x l) (v x) (rest_at v x u) (rest_at v x l) (value_of v u)
    (value_of v l) (balance (size_of x u) (size_of x l) h.positive k.positive).balanced h.same k.same (value-split v x u o)
    (value-split v x l r) where
      only_rests : (a b m n : ℕ) (c d z ru rl u l : ℤ) → m * a ≡ n * b → c ≡ pos a → d ≡ neg_ℤ (pos b) → u ≡ (c *ℤ z) +ℤ ru →
          l ≡ (d *ℤ z) +ℤ rl → (pos m *ℤ u) +ℤ (pos n *ℤ l) ≡ (pos m *ℤ ru) +ℤ (pos n *ℤ rl)
      only_rests a b m n c d z ru rl u l e f g hu hl =
          let away : (pos m *ℤ c) +ℤ (pos n *ℤ d) ≡ pos 0 = omega (
            arith,
            ints,
            e,
            ap (λ y. pos m *ℤ y) f,
            ap (λ y. pos n *ℤ y) g,
            mul-neg (pos n) (pos b),
          ) in
          let first = ap (λ y. pos m *ℤ y) hu ∙ mul-step (pos m) c z ru in
          let second = ap (λ y. pos n *ℤ y) hl ∙ mul-step (pos n) d z rl in
          omega (arith, ints, first, second, add-mul (pos m *ℤ c) (pos n *ℤ d) z, ap (λ y. y *ℤ z) away, zero-mul z)

-- where the sum holds, a times the rest of the lower row and b times that of the upper one are at most 0
pub rests-nonpos : (v : Valuation) (x : ℕ) (u l : LinearSum) → InOrder 0 u.parts → InOrder 0 l.parts → IsUpper x u → IsLower x l →
    value_of v (pair_sum x (u, l)) ≤ℤ pos 0 → ((pos (size_of x l) *ℤ rest_at v x u) +ℤ (pos (size_of x u) *ℤ rest_at v x l)) ≤ℤ pos 0
rests-nonpos v x u l o r h k met =
    let b = balance (size_of x u) (size_of x l) h.positive k.positive in
    scaled (size_of x u) (size_of x l) (upper_multiple (size_of x u) (size_of x l)) (lower_multiple (size_of x u) (size_of x l))
    (common_divisor (size_of x u) (size_of x l)) (rest_at v x u) (rest_at v x l) b.first b.second
    (omega (arith, ints, rests-of_pair v x u l o r h k, met)) where
      scaled : (a b m n g : ℕ) (ru rl : ℤ) → g * m ≡ b → g * n ≡ a → ((pos m *ℤ ru) +ℤ (pos n *ℤ rl)) ≤ℤ pos 0 →
          ((pos b *ℤ ru) +ℤ (pos a *ℤ rl)) ≤ℤ pos 0
      scaled a b m n g ru rl e f h =
          let p : pos g *ℤ pos m ≡ pos b = omega (arith, ints, e) in
          let q : pos g *ℤ pos n ≡ pos a = omega (arith, ints, f) in
          let below = mul_nonpos (pos g) ((pos m *ℤ ru) +ℤ (pos n *ℤ rl)) (omega (arith, ints)) h in
          omega (
            arith,
            ints,
            below,
            mul-add (pos g) (pos m *ℤ ru) (pos n *ℤ rl),
            mul-assoc (pos g) (pos m) ru,
            mul-assoc (pos g) (pos n) rl,
            ap (λ y. y *ℤ ru) p,
            ap (λ y. y *ℤ rl) q,
          )
