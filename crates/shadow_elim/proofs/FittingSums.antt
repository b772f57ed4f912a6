-- The sum of two small rows is within the limits.
use Rattle.std.proofs.Common.{get_or, ◌≡◌, ℕ, suc, ◌+◌, ◌*◌, ◌^◌, ◌≤◌, Bool, true, false, List, [], ◌∷◌, length, ℤ, pos, ◌+ℤ◌, ◌*ℤ◌, nat_lt, arith, refl, sym, ap, subst}
use Rattle.std.specs.Prelude.{All, IsTrue, unsigned_abs, ◌==◌, if◌then◌else◌}
use Rattle.std.proofs.lemmas.Bool.{eq-eqb, eqb-true}
use Rattle.std.proofs.lemmas.Int.{ints, unsigned_abs-mul}
use Rattle.std.proofs.Math.Nat.{mul-le-mul}
use Rattle.linear_formula.specs.LinearSum.{LinearSum, max_coefficient, max_constant, is_zero, is_term, is_within, coefficient, listed_at}
use Rattle.linear_formula.specs.Results.{put_part, with_part, plus_parts}
use Rattle.linear_formula.specs.steps.Order.{InOrder, AllWithin}
use Rattle.linear_formula.proofs.Limits.{IsTerm-from_test, test-from_Within}
use Rattle.linear_formula.proofs.Order.{listed-absent}
use Rattle.linear_formula.proofs.Values.{chosen, chosen_of_two}
use Rattle.shadow_elim.specs.Division.{common_divisor}
use Rattle.shadow_elim.specs.Elimination.{is_upper, is_lower, size_of, upper_multiple, lower_multiple, pair_sum}
use Rattle.shadow_elim.proofs.MadeRight.{quotient-small}
use Rattle.shadow_elim.proofs.PairSums.{balance, upper-is, lower-is, coefficient-pair_sum, order-pair_sum}
use Rattle.shadow_elim.specs.declared.row.Row.{Row}
use Rattle.shadow_elim.specs.declared.sizes.Sizes.{Sizes}
use Rattle.shadow_elim.specs.RowSizes.{AreSized, IsSized, IsUpTo, DoFit, NoneIsWide}

-- Coefficients

listed-sized : (y n : ℕ) (ps : List (ℕ × ℤ)) → AreSized ps (length ps) n → unsigned_abs (listed_at y ps) ≤ n
listed-sized y n [] h = omega arith
listed-sized y n (p ∷ ps) h = chosen_of_two (λ (z : ℤ). unsigned_abs z ≤ n) (y == p.0) p.1 (listed_at y ps) (λ _. h 0 (omega arith))
    (λ _. listed-sized y n ps (λ k q. h (suc k) (omega (arith, q))))

pub sized-more : (t : LinearSum) (s r : Sizes) → IsSized t s → IsUpTo s r → IsSized t r
sized-more t s r h u = record {
  count = omega (arith, h.count, u.count);
  coefficients = λ k q. omega (arith, h.coefficients k q, u.coefficient);
  constant = omega (arith, h.constant, u.constant);
}

pub sized-same : (t : LinearSum) (ps : List (ℕ × ℤ)) (c : ℤ) (s : Sizes) → ps ≡ t.parts → c ≡ t.constant →
    IsSized (record { parts = ps; constant = c }) s → IsSized t s
sized-same t ps c s e f h = subst (λ (r : LinearSum). IsSized r s) (λ i. record { parts = e i; constant = f i }) h

pub sized-back : (t : LinearSum) (ps : List (ℕ × ℤ)) (c : ℤ) (s : Sizes) → ps ≡ t.parts → c ≡ t.constant → IsSized t s →
    IsSized (record { parts = ps; constant = c }) s
sized-back t ps c s e f h = sized-same (record { parts = ps; constant = c }) t.parts t.constant s (sym e) (sym f) h

within-listed : (low : ℕ) (ps : List (ℕ × ℤ)) → InOrder low ps → ((y : ℕ) → unsigned_abs (listed_at y ps) ≤ 2 ^ 40) → AllWithin ps
within-listed low [] o h = tt
within-listed low (p ∷ ps) o h = (here, within-listed (p.0 + 1) ps o.3 (λ y. rest y (y == p.0) refl)) where
  here : unsigned_abs p.1 ≤ 2 ^ 40
  here = subst (λ (b : Bool). unsigned_abs (if b then p.1 else listed_at p.0 ps) ≤ 2 ^ 40) (eq-eqb p.0 p.0 refl) (h p.0)

  rest : (y : ℕ) (b : Bool) → (y == p.0) ≡ b → unsigned_abs (listed_at y ps) ≤ 2 ^ 40
  rest y true e =
      let none = listed-absent y (p.0 + 1) ps (omega (arith, eqb-true y p.0 e)) o.3 in
      omega (arith, ap unsigned_abs none)
  rest y false e = subst (λ (b : Bool). unsigned_abs (if b then p.1 else listed_at y ps) ≤ 2 ^ 40) e (h y)

-- Sizes

-- sizes that fit, and lesser ones
pub fit-less : (s t r u : Sizes) → IsUpTo s t → IsUpTo r u → DoFit t u → DoFit s r
fit-less s t r u h k f =
    let product : s.coefficient * r.coefficient ≤ t.coefficient * u.coefficient = mul-le-mul h.coefficient k.coefficient in
    let left : r.coefficient * s.constant ≤ u.coefficient * t.constant = mul-le-mul k.coefficient h.constant in
    let right : s.coefficient * r.constant ≤ t.coefficient * u.constant = mul-le-mul h.coefficient k.constant in
    record {
      count = omega (arith, h.count, k.count, f.count);
      coefficients = omega (arith, product, f.coefficients);
      constants = omega (arith, left, right, f.constants);
    }

-- Counts

length-put : (x : ℕ) (a : ℤ) (ps : List (ℕ × ℤ)) → length (put_part x a ps) ≤ length ps + 1
length-put x a ps = chosen_of_two (λ (qs : List (ℕ × ℤ)). length qs ≤ length ps + 1) (is_zero a) ps ((x, a) ∷ ps) (λ _. omega arith)
    (λ _. omega arith)

length-with : (x : ℕ) (a : ℤ) (ps : List (ℕ × ℤ)) → length (with_part x a ps) ≤ length ps + 1
length-with x a [] = length-put x a []
length-with x a (p ∷ ps) = chosen (λ (qs : List (ℕ × ℤ)). length qs ≤ length (p ∷ ps) + 1) (nat_lt x p.0) (x == p.0)
    (put_part x a (p ∷ ps)) (put_part x (a +ℤ p.1) ps) (p ∷ with_part x a ps) (λ _. length-put x a (p ∷ ps))
    (λ _ _. omega (arith, length-put x (a +ℤ p.1) ps)) (λ _ _. omega (arith, length-with x a ps))

length-plus : (m : ℤ) (ps qs : List (ℕ × ℤ)) → length (plus_parts m ps qs) ≤ length ps + length qs
length-plus m [] qs = omega arith
length-plus m (p ∷ ps) qs = omega (arith, length-with p.0 (m *ℤ p.1) (plus_parts m ps qs), length-plus m ps qs)

-- Sums

product-below : (m a b : ℕ) (c : ℤ) → m ≤ a → unsigned_abs c ≤ b → unsigned_abs (pos m *ℤ c) ≤ a * b
product-below m a b c h k =
    let e : m * unsigned_abs c ≤ a * b = mul-le-mul h k in
    omega (arith, unsigned_abs-mul (pos m) c, e)

two-below : (a b : ℤ) (n : ℕ) → unsigned_abs a ≤ n → unsigned_abs b ≤ n → 2 * n ≤ max_coefficient → unsigned_abs (a +ℤ b) ≤ max_coefficient
two-below a b n h k l = omega (arith, ints, h, k, l)

constants-below : (a b : ℤ) (m n : ℕ) → unsigned_abs a ≤ m → unsigned_abs b ≤ n → m + n ≤ max_constant →
    unsigned_abs (a +ℤ (b +ℤ pos 0)) ≤ max_constant
constants-below a b m n h k l = omega (arith, ints, h, k, l)

pub fit-within : (x : ℕ) (u l : LinearSum) (s r : Sizes) → IsTrue (is_term u) → IsTrue (is_term l) → IsTrue (is_upper x u) →
    IsTrue (is_lower x l) → IsSized u s → IsSized l r → DoFit s r → IsTrue (is_within (pair_sum x (u, l)))
fit-within x u l s r tu tl hu hl h k f = test-from_Within (pair_sum x (u, l)) (record {
  count = omega (
    arith,
    h.count,
    k.count,
    f.count,
    length-plus (pos m) u.parts (plus_parts (pos n) l.parts []),
    length-plus (pos n) l.parts [],
  );
  coefficients = within-listed 0 (pair_sum x (u, l)).parts (order-pair_sum x u l ou ol) below;
  constant_limit = constants-below (pos m *ℤ u.constant) (pos n *ℤ l.constant) (r.coefficient * s.constant) (s.coefficient * r.constant)
      (product-below m r.coefficient s.constant u.constant sm h.constant) (product-below n s.coefficient r.constant l.constant sn
      k.constant)
      f.constants;
}) where
  m : ℕ
  m = upper_multiple (size_of x u) (size_of x l)

  n : ℕ
  n = lower_multiple (size_of x u) (size_of x l)

  ou : InOrder 0 u.parts
  ou = (IsTerm-from_test u tu).order

  ol : InOrder 0 l.parts
  ol = (IsTerm-from_test l tl).order

  sm : m ≤ r.coefficient
  sm =
      let b = balance (size_of x u) (size_of x l) (upper-is x u hu).positive (lower-is x l hl).positive in
      omega (
        arith,
        quotient-small (common_divisor (size_of x u) (size_of x l)) m (size_of x l) b.divisor b.first,
        listed-sized x r.coefficient l.parts k.coefficients,
      )

  sn : n ≤ s.coefficient
  sn =
      let b = balance (size_of x u) (size_of x l) (upper-is x u hu).positive (lower-is x l hl).positive in
      omega (
        arith,
        quotient-small (common_divisor (size_of x u) (size_of x l)) n (size_of x u) b.divisor b.second,
        listed-sized x s.coefficient u.parts h.coefficients,
      )

  turned : r.coefficient * s.coefficient ≡ s.coefficient * r.coefficient
  turned = omega arith

  below : (y : ℕ) → unsigned_abs (coefficient y (pair_sum x (u, l))) ≤ 2 ^ 40
  below y = subst (λ (z : ℤ). unsigned_abs z ≤ 2 ^ 40) (sym (coefficient-pair_sum y x u l ou ol))
      (two-below (pos m *ℤ coefficient y u) (pos n *ℤ coefficient y l) (s.coefficient * r.coefficient)
      (subst (λ (c : ℕ). unsigned_abs (pos m *ℤ coefficient y u) ≤ c) turned
      (product-below m r.coefficient s.coefficient (coefficient y u) sm (listed-sized y s.coefficient u.parts h.coefficients)))
      (product-below n s.coefficient r.coefficient (coefficient y l) sn (listed-sized y r.coefficient l.parts k.coefficients))
      f.coefficients)

pub all-within : (x : ℕ) (us ls : List Row) (s r : Sizes) → All (λ u. IsTrue (is_upper x u.term)) us →
    All (λ l. IsTrue (is_lower x l.term)) ls → All (λ u. IsTrue (is_term u.term) × IsSized u.term s) us →
    All (λ l. IsTrue (is_term l.term) × IsSized l.term r) ls → DoFit s r → NoneIsWide x us ls
all-within x us ls s r hu hl su sl f = λ i d h j e k.
    fit-within x (get_or us i d).term (get_or ls j e).term s r (su i d h).0 (sl j e k).0 (hu i d h) (hl j e k) (su i d h).1 (sl j e k).1 f
