-- Sums of rows of the same two columns.
use Rattle.std.proofs.Common.{◌≡◌, inl, inr, ℕ, zero, suc, ◌<◌, ◌≤◌, ◌+◌, ◌*◌, ◌^◌, ◌==◌, Bool, true, false, Option, None, Some, List, [], ◌∷◌, length, ℤ, pos, negsuc, neg_ℤ, ◌+ℤ◌, ◌-ℤ◌, ◌*ℤ◌, to_z, of_z, nat_lt, arith, refl, sym, ap, subst, ◌∙◌}
use Rattle.std.specs.Prelude.{IsTrue, IfSome, ◌≤ℤ◌, ◌<ℤ◌, int_le, int_lt, unsigned_abs, slice_index_or, if◌then◌else◌}
use Rattle.std.specs.Int.{w64, w128}
use Rattle.std.proofs.lemmas.Bool.{eq-eqb, eqb-true}
use Rattle.std.proofs.lemmas.Int.{ints, unsigned_abs-mul}
use Rattle.std.proofs.lemmas.Nat.Gcd.{IsGcd-from_zero}
use Rattle.std.proofs.Math.Nat.{mul-le-mul}
use Rattle.linear_formula.specs.LinearSum.{LinearSum, is_term, is_within, coefficient, listed_at}
use Rattle.linear_formula.specs.steps.Order.{InOrder, AllWithin}
use Rattle.linear_formula.proofs.Ring.{mul-add, mul-assoc}
use Rattle.linear_formula.proofs.Finishing.{AllWithin-at, cast_wide}
use Rattle.linear_formula.proofs.Limits.{IsTerm, IsTerm-from_test, test-from_Within}
use Rattle.infeasible_cert.proofs.Signs.{below_multiplier}
use Rattle.shadow_elim.specs.Division.{common_divisor, parts_divisor, row_divisor, tightened}
use Rattle.shadow_elim.specs.Elimination.{size_of, upper_multiple, lower_multiple, pair_sum}
use Rattle.shadow_elim.specs.Reduction.{is_trivial}
use Rattle.shadow_elim.proofs.Exact.{neg-mul}
use Rattle.shadow_elim.proofs.Divisors.{common_divisor_is}
use Rattle.shadow_elim.proofs.Pairs.{cast_divisor}
use Rattle.shadow_elim.proofs.PairSums.{IsUpper, IsLower, Balance, balance, upper-is, lower-is, coefficient-pair_sum, order-pair_sum, pair_sum-absent, pair_sum-eliminates, pair_sum-term}
use Rattle.shadow_elim.proofs.Tests.{first_true}
use Rattle.shadow_elim.proofs.Tightening.{IsTightened, mul-neg, tightened-is, tightened-absent}
use Rattle.lia_solver.specs.declared.two_columns.Sides.{Sides}
use Rattle.lia_solver.specs.steps.Entries.{Entry, sum_at, bounds_above, bounds_below, AreTermEntries, ArePaired}
use Rattle.lia_solver.specs.steps.TwoColumns.{single, names_two, AreSides, IsOutdone}
use Rattle.lia_solver.specs.steps.Tables.{IsHeld, IsGrown, IsSummed}
use Rattle.lia_solver.proofs.ChosenPoints.{nameless}
use Rattle.lia_solver.proofs.Growing.{held-then}
use Rattle.lia_solver.proofs.FirstColumns.{above-upper, below-lower}

no_way : true ≡ false → ⊥
no_way h = cc

-- Numbers

pub scaled-nonpos : (d : ℕ) (z : ℤ) → 0 < d → (pos d *ℤ z) ≤ℤ pos 0 → z ≤ℤ pos 0
scaled-nonpos d z h k = below_multiplier (pos d) z (omega (arith, ints, h)) (omega (arith, ints, h, k))

-- the multiple of a number
pub scaled-small : (g n : ℕ) (z : ℤ) → 0 < g → unsigned_abs (pos g *ℤ z) ≤ n → unsigned_abs z ≤ n
scaled-small g n z h k =
    let e : 1 * unsigned_abs z ≤ g * unsigned_abs z = mul-le-mul (omega (arith, h)) (omega arith) in
    omega (arith, k, e, unsigned_abs-mul (pos g) z)

-- Rows of one column

listed-first : (p : ℕ × ℤ) (ps : List (ℕ × ℤ)) → listed_at p.0 (p ∷ ps) ≡ p.1
listed-first p ps = ap (λ (b : Bool). if b then p.1 else listed_at p.0 ps) (eq-eqb p.0 p.0 refl)

listed-next : (y : ℕ) (p : ℕ × ℤ) (ps : List (ℕ × ℤ)) → (y ≡ p.0 → ⊥) → listed_at y (p ∷ ps) ≡ listed_at y ps
listed-next y p ps h = by_test (y == p.0) refl where
  by_test : (b : Bool) → (y == p.0) ≡ b → (if b then p.1 else listed_at y ps) ≡ listed_at y ps
  by_test true e = absurd (h (eqb-true y p.0 e))
  by_test false e = refl

-- where no other column is named, and this one is
pub one-part : (y low : ℕ) (ps : List (ℕ × ℤ)) → InOrder low ps → ((z : ℕ) → (z ≡ y → ⊥) → listed_at z ps ≡ pos 0) →
    (listed_at y ps ≡ pos 0 → ⊥) → ps ≡ (y, listed_at y ps) ∷ []
one-part y low [] o n h = absurd (h refl)
one-part y low (p ∷ ps) o n h = by_test (p.0 == y) refl where
  rest : (qs : List (ℕ × ℤ)) → InOrder (p.0 + 1) qs → p.0 ≡ y → ((z : ℕ) → (z ≡ y → ⊥) → listed_at z (p ∷ qs) ≡ pos 0) →
      p ∷ qs ≡ (y, listed_at y (p ∷ qs)) ∷ []
  rest [] o e n =
      let f : p.1 ≡ listed_at y (p ∷ []) = sym (listed-first p []) ∙ ap (λ z. listed_at z (p ∷ [])) e in
      λ i. (e i, f i) ∷ []
  rest (q ∷ qs) o e n =
      let apart : q.0 ≡ y → ⊥ = λ k. omega (arith, o.0, e, k) in
      let none = sym (listed-next q.0 p (q ∷ qs) (λ k. apart (k ∙ e)) ∙ listed-first q qs) ∙ n q.0 apart in
      absurd (o.2 none)

  by_test : (b : Bool) → (p.0 == y) ≡ b → p ∷ ps ≡ (y, listed_at y (p ∷ ps)) ∷ []
  by_test true e = rest ps o.3 (eqb-true p.0 y e) n
  by_test false e =
      let apart : p.0 ≡ y → ⊥ = λ k. no_way (sym (eq-eqb p.0 y k) ∙ e) in
      absurd (o.2 (sym (listed-first p ps) ∙ n p.0 apart))

divisor-one : (y : ℕ) (a : ℤ) → parts_divisor ((y, a) ∷ []) ≡ unsigned_abs a
divisor-one y a = sym (common_divisor_is (unsigned_abs a) 0 (unsigned_abs a) (IsGcd-from_zero (unsigned_abs a) 0 refl))

row-divisor-one : (y : ℕ) (a : ℤ) (t : LinearSum) → t.parts ≡ (y, a) ∷ [] → (a ≡ pos 0 → ⊥) → row_divisor t ≡ unsigned_abs a
row-divisor-one y a t e h = by_test (nat_lt 1 (parts_divisor t.parts)) refl where
  same : parts_divisor t.parts ≡ unsigned_abs a
  same = ap parts_divisor e ∙ divisor-one y a

  some : (z : ℤ) → (z ≡ pos 0 → ⊥) → 0 < unsigned_abs z
  some (pos zero) k = absurd (k refl)
  some (pos (suc n)) k = omega arith
  some (negsuc n) k = omega arith

  by_test : (b : Bool) → nat_lt 1 (parts_divisor t.parts) ≡ b → (if b then parts_divisor t.parts else 1) ≡ unsigned_abs a
  by_test true f = same
  by_test false f =
      let low : nat_lt 1 (unsigned_abs a) ≡ false = ap (nat_lt 1) (sym same) ∙ f in
      let high = some a h in
      one (unsigned_abs a) low high where
        one : (n : ℕ) → nat_lt 1 n ≡ false → 0 < n → 1 ≡ n
        one n l p = grind (arith)

-- Numbers of a sum, and of a multiple of it

-- a multiple is at most 0 where the number is
unscaled : (g : ℕ) (c s k r at : ℤ) → 0 < g → c ≡ pos g *ℤ s → k ≡ pos g *ℤ r → ((c *ℤ at) +ℤ k) ≤ℤ pos 0 →
    ((s *ℤ at) +ℤ r) ≤ℤ pos 0
unscaled g c s k r at h e f le =
    scaled-nonpos g ((s *ℤ at) +ℤ r) h
    (omega (arith, ints, le, f, ap (λ z. z *ℤ at) e, mul-assoc (pos g) s at, mul-add (pos g) (s *ℤ at) r))

pub scaled-sum : (g m n a b : ℕ) (p q : ℤ) → g * m ≡ b → g * n ≡ a → (pos b *ℤ p) +ℤ (pos a *ℤ q)
    ≡ pos g *ℤ ((pos m *ℤ p) +ℤ (pos n *ℤ q))
scaled-sum g m n a b p q e f =
    let first : pos g *ℤ pos m ≡ pos b = omega (arith, ints, e) in
    let second : pos g *ℤ pos n ≡ pos a = omega (arith, ints, f) in
    omega (
      arith,
      ints,
      mul-add (pos g) (pos m *ℤ p) (pos n *ℤ q),
      mul-assoc (pos g) (pos m) p,
      mul-assoc (pos g) (pos n) q,
      ap (λ z. z *ℤ p) first,
      ap (λ z. z *ℤ q) second,
    )

-- a constant that is rounded up is no greater than an integer that isn't below the quotient
rounded-limit : (d : ℕ) (k r w : ℤ) → 0 < d → (pos d *ℤ r) <ℤ (k +ℤ pos d) → k ≤ℤ (pos d *ℤ w) → r ≤ℤ w
rounded-limit d k r w h up le =
    let below = below_multiplier (pos d) (r +ℤ neg_ℤ w) (omega (arith, ints, h))
    (omega (arith, ints, up, le, mul-add (pos d) r (neg_ℤ w), mul-neg (pos d) w)) in
    omega (arith, ints, below)

-- the product of numbers above 0
product : (g d : ℕ) → 0 < g → 0 < d → pos 0 <ℤ (pos g *ℤ pos d)
product zero d h k = absurd (omega (arith, h))
product (suc g) zero h k = absurd (omega (arith, k))
product (suc g) (suc d) h k = omega (arith, ints)

one-of : (d : ℕ) (z : ℤ) → 0 < d → pos d ≡ pos d *ℤ z → z ≡ pos 1
one-of d z h e =
    let low = scaled-nonpos d (z +ℤ negsuc 0) h (omega (arith, ints, e, mul-add (pos d) z (negsuc 0))) in
    let high = scaled-nonpos d (pos 1 +ℤ neg_ℤ z) h (omega (arith, ints, e, mul-add (pos d) (pos 1) (neg_ℤ z), mul-neg (pos d) z)) in
    omega (arith, ints, low, high)

minus-one-of : (d : ℕ) (z : ℤ) → 0 < d → neg_ℤ (pos d) ≡ pos d *ℤ z → z ≡ negsuc 0
minus-one-of d z h e =
    let low = scaled-nonpos d (z +ℤ pos 1) h (omega (arith, ints, e, mul-add (pos d) z (pos 1))) in
    let high = scaled-nonpos d (negsuc 0 +ℤ neg_ℤ z) h
    (omega (arith, ints, e, mul-add (pos d) (negsuc 0) (neg_ℤ z), mul-neg (pos d) z)) in
    omega (arith, ints, low, high)

-- The sum of two rows of the same two columns

-- the first column of the row, and the other one
pub record AreTwo (x y : ℕ) (ps : List (ℕ × ℤ)) : Type 0 where
  pub apart : y ≡ x → ⊥
  pub others : (z : ℕ) → (z ≡ x → ⊥) → (z ≡ y → ⊥) → listed_at z ps ≡ pos 0
  pub second : (slice_index_or ps 1 (0, pos 0)).1 ≡ listed_at y ps

two-of : (x y : ℕ) (p q : ℕ × ℤ) → p.0 ≡ x → q.0 ≡ y → InOrder 0 (p ∷ q ∷ []) → AreTwo x y (p ∷ q ∷ [])
two-of x y p q e f o = record {
  apart = apart;
  others = λ z h k. listed-next z p (q ∷ []) (λ r. h (r ∙ e)) ∙ listed-next z q [] (λ r. k (r ∙ f));
  second = sym (listed-next y p (q ∷ []) (λ r. apart (r ∙ e)) ∙ ap (λ z. listed_at z (q ∷ [])) (sym f) ∙ listed-first q []);
} where
  apart : y ≡ x → ⊥
  apart k = omega (arith, o.3.0, e, f, k)

pub above-two : (x y : ℕ) (ps : List (ℕ × ℤ)) → IsTrue (bounds_above x ps) → names_two y ps ≡ true → InOrder 0 ps → AreTwo x y ps
above-two x y [] h k o = absurd (no_way (sym k))
above-two x y (p ∷ []) h k o = absurd (no_way (sym k))
above-two x y (p ∷ q ∷ []) h k o =
    two-of x y p q (sym (eqb-true x p.0 (first_true (x == p.0) (int_lt (pos 0) p.1) h))) (eqb-true q.0 y k) o
above-two x y (p ∷ q ∷ r ∷ ps) h k o = absurd (no_way (sym k))

pub below-two : (x y : ℕ) (ps : List (ℕ × ℤ)) → IsTrue (bounds_below x ps) → names_two y ps ≡ true → InOrder 0 ps → AreTwo x y ps
below-two x y [] h k o = absurd (no_way (sym k))
below-two x y (p ∷ []) h k o = absurd (no_way (sym k))
below-two x y (p ∷ q ∷ []) h k o =
    two-of x y p q (sym (eqb-true x p.0 (first_true (x == p.0) (int_lt p.1 (pos 0)) h))) (eqb-true q.0 y k) o
below-two x y (p ∷ q ∷ r ∷ ps) h k o = absurd (no_way (sym k))

single-not-trivial : (y : ℕ) (a c : ℤ) → is_trivial (single y a c) ≡ true → ⊥
single-not-trivial y a c h = no_way (sym h)

-- a row of one column that is no stronger than one that is held
held-weaker : (y : ℕ) (a c : ℤ) (t : LinearSum) (entries : List Entry) → IsHeld (single y a c) entries → t.parts ≡ (y, a) ∷ [] →
    t.constant ≤ℤ c → IsHeld t entries
held-weaker y a c t entries (inl h) e le = absurd (single-not-trivial y a c h)
held-weaker y a c t entries (inr h) e le = inr (h.0, h.1, h.2 ∙ sym e, omega (arith, ints, h.3, le))

-- the row names this column alone, and is divided by d
record IsAlone (y : ℕ) (t : LinearSum) (d : ℕ) : Type 0 where
  some : 0 < d
  whole : coefficient y t ≡ pos d *ℤ coefficient y (tightened t)
  parts : (tightened t).parts ≡ (y, coefficient y (tightened t)) ∷ []
  up : (pos d *ℤ (tightened t).constant) <ℤ (t.constant +ℤ pos d)

-- a sum that two rows of one column outdo
pub needless-sum : (x : ℕ) (entries : List Entry) (up low : ℕ) (s : Sides) (c k : ℤ) → ArePaired x entries up low → AreSides s entries →
    names_two s.column (sum_at entries up).parts ≡ true → names_two s.column (sum_at entries low).parts ≡ true →
    c ≡ (pos (size_of x (sum_at entries low)) *ℤ coefficient s.column (sum_at entries up)) +ℤ
    (pos (size_of x (sum_at entries up)) *ℤ coefficient s.column (sum_at entries low)) →
    k ≡ (pos (size_of x (sum_at entries low)) *ℤ (sum_at entries up).constant) +ℤ
    (pos (size_of x (sum_at entries up)) *ℤ (sum_at entries low).constant) →
    unsigned_abs c ≤ 2 ^ 40 → unsigned_abs k ≤ 2 ^ 84 → IsOutdone s c k → IsSummed x entries up low
needless-sum x entries up low s c k p sides nu nl ec ek hc hk out = by_value (coefficient y t) refl where
  y : ℕ
  y = s.column

  u : LinearSum
  u = sum_at entries up

  l : LinearSum
  l = sum_at entries low

  tu : IsTrue (is_term u)
  tu = p.terms.greatest up p.upper_place

  tl : IsTrue (is_term l)
  tl = p.terms.greatest low p.lower_place

  ou : InOrder 0 u.parts
  ou = (IsTerm-from_test u tu).order

  ol : InOrder 0 l.parts
  ol = (IsTerm-from_test l tl).order

  iu : IsUpper x u
  iu = upper-is x u (above-upper x u p.above)

  il : IsLower x l
  il = lower-is x l (below-lower x l p.below)

  g : ℕ
  g = common_divisor (size_of x u) (size_of x l)

  m : ℕ
  m = upper_multiple (size_of x u) (size_of x l)

  n : ℕ
  n = lower_multiple (size_of x u) (size_of x l)

  b : Balance (size_of x u) (size_of x l) m n g
  b = balance (size_of x u) (size_of x l) iu.positive il.positive

  wu : AreTwo x y u.parts
  wu = above-two x y u.parts p.above nu ou

  wl : AreTwo x y l.parts
  wl = below-two x y l.parts p.below nl ol

  t : LinearSum
  t = pair_sum x (u, l)

  order : InOrder 0 t.parts
  order = order-pair_sum x u l ou ol

  others : (z : ℕ) → (z ≡ y → ⊥) → coefficient z t ≡ pos 0
  others z h = by_first (z == x) refl where
    by_first : (q : Bool) → (z == x) ≡ q → coefficient z t ≡ pos 0
    by_first true e =
        subst (λ (w : ℕ). coefficient w t ≡ pos 0) (sym (eqb-true z x e)) (pair_sum-eliminates x u l ou ol iu il)
    by_first false e =
        let apart : z ≡ x → ⊥ = λ r. no_way (sym (eq-eqb z x r) ∙ e) in
        pair_sum-absent z x u l ou ol (wu.others z apart h) (wl.others z apart h)

  -- both numbers are multiples of those of the sum
  first : c ≡ pos g *ℤ coefficient y t
  first = ec ∙ scaled-sum g m n (size_of x u) (size_of x l) (coefficient y u) (coefficient y l) b.first b.second
      ∙ ap (λ z. pos g *ℤ z) (sym (coefficient-pair_sum y x u l ou ol))

  constant-is : t.constant ≡ (pos m *ℤ u.constant) +ℤ (pos n *ℤ l.constant)
  constant-is = plus-none (pos m *ℤ u.constant) (pos n *ℤ l.constant) where
    plus-none : (v w : ℤ) → v +ℤ (w +ℤ pos 0) ≡ v +ℤ w
    plus-none v w = omega (arith, ints)

  second : k ≡ pos g *ℤ t.constant
  second = ek ∙ scaled-sum g m n (size_of x u) (size_of x l) u.constant l.constant b.first b.second ∙ ap (λ z. pos g *ℤ z) (sym constant-is)

  small : unsigned_abs (coefficient y t) ≤ 2 ^ 40
  small = scaled-small g (2 ^ 40) (coefficient y t) b.divisor (subst (λ (z : ℤ). unsigned_abs z ≤ 2 ^ 40) first hc)

  limit : unsigned_abs t.constant ≤ 2 ^ 84
  limit = scaled-small g (2 ^ 84) t.constant b.divisor (subst (λ (z : ℤ). unsigned_abs z ≤ 2 ^ 84) second hk)

  within-of : (ps : List (ℕ × ℤ)) → t.parts ≡ ps → length ps ≤ 1024 → AllWithin ps → IsTrue (is_within t)
  within-of ps e h w = test-from_Within t (record {
    count = subst (λ (qs : List (ℕ × ℤ)). length qs ≤ 1024) (sym e) h;
    coefficients = subst (λ (qs : List (ℕ × ℤ)). AllWithin qs) (sym e) w;
    constant_limit = limit;
  })

  -- no column is left
  bare : coefficient y t ≡ pos 0 → IsSummed x entries up low
  bare e = record {
    within = within-of [] none (omega arith) tt;
    held = inl (trivial (ap (λ (ps : List (ℕ × ℤ)). record { parts = ps; constant = t.constant }) none));
  } where
    none : t.parts ≡ []
    none = nameless 0 t.parts order (λ z. by_other z (z == y) refl) where
      by_other : (z : ℕ) (q : Bool) → (z == y) ≡ q → coefficient z t ≡ pos 0
      by_other z true f = ap (λ w. coefficient w t) (eqb-true z y f) ∙ e
      by_other z false f = others z (λ r. no_way (sym (eq-eqb z y r) ∙ f))

    low-constant : t.constant ≤ℤ pos 0
    low-constant =
        scaled-nonpos g t.constant b.divisor
        (subst (λ (z : ℤ). z ≤ℤ pos 0) second (out.none (first ∙ ap (λ z. pos g *ℤ z) e ∙ zero-is g))) where
          zero-is : (h : ℕ) → pos h *ℤ pos 0 ≡ pos 0
          zero-is h = omega (arith, ints)

    trivial : t ≡ record { parts = []; constant = t.constant } → is_trivial (tightened t) ≡ true
    trivial f = ap (λ r. is_trivial (tightened r)) f ∙ at-most t.constant low-constant where
      at-most : (z : ℤ) → z ≤ℤ pos 0 → int_le z (pos 0) ≡ true
      at-most z h = grind (arith, ints)

  -- one column is left
  alone : (coefficient y t ≡ pos 0 → ⊥) → t.parts ≡ (y, coefficient y t) ∷ []
  alone h = one-part y 0 t.parts order others h

  within : (coefficient y t ≡ pos 0 → ⊥) → IsTrue (is_within t)
  within h = within-of ((y, coefficient y t) ∷ []) (alone h) (omega arith) (small, tt)

  is-alone : (coefficient y t ≡ pos 0 → ⊥) → IsAlone y t (unsigned_abs (coefficient y t))
  is-alone h = subst (IsAlone y t) (row-divisor-one y (coefficient y t) t (alone h) h) (record {
    some = is.positive;
    whole = is.coefficients y;
    parts = one-part y 0 (tightened t).parts (IsTerm-from_test (tightened t) (is.term (pair_sum-term x u l tu tl (within h)))).order
        (λ z r. tightened-absent z t (others z r))
        (λ e. h (is.coefficients y ∙ ap (λ z. pos (row_divisor t) *ℤ z) e ∙ zero-is (row_divisor t)));
    up = is.constant.1;
  }) where
    is : IsTightened t (tightened t) (row_divisor t)
    is = tightened-is t

    zero-is : (h : ℕ) → pos h *ℤ pos 0 ≡ pos 0
    zero-is h = omega (arith, ints)

  positive : (d : ℕ) → coefficient y t ≡ pos d → 0 < d → IsAlone y t d → IsHeld (tightened t) entries
  positive d e h i =
      let unit : coefficient y (tightened t) ≡ pos 1 = one-of d (coefficient y (tightened t)) h (sym e ∙ i.whole) in
      let above : pos 0 <ℤ c = omega (arith, ints, first, ap (λ z. pos g *ℤ z) e, product g d b.divisor h) in
      let le = unscaled g c (coefficient y t) k t.constant s.greatest b.divisor first second (out.above above) in
      let le : ((pos d *ℤ s.greatest) +ℤ t.constant) ≤ℤ pos 0 = subst (λ (z : ℤ). ((z *ℤ s.greatest) +ℤ t.constant) ≤ℤ pos 0) e le in
      held-weaker y (pos 1) (neg_ℤ s.greatest) (tightened t) entries sides.above (i.parts ∙ ap (λ z. (y, z) ∷ []) unit)
      (rounded-limit d t.constant (tightened t).constant (neg_ℤ s.greatest) h i.up (omega (arith, ints, le, mul-neg (pos d) s.greatest)))

  negative : (d : ℕ) → coefficient y t ≡ neg_ℤ (pos d) → 0 < d → IsAlone y t d → IsHeld (tightened t) entries
  negative d e h i =
      let unit : coefficient y (tightened t) ≡ negsuc 0 = minus-one-of d (coefficient y (tightened t)) h (sym e ∙ i.whole) in
      let below : c <ℤ pos 0 = omega (arith, ints, first, ap (λ z. pos g *ℤ z) e, mul-neg (pos g) (pos d), product g d b.divisor h) in
      let le = unscaled g c (coefficient y t) k t.constant s.least b.divisor first second (out.below below) in
      let le : ((neg_ℤ (pos d) *ℤ s.least) +ℤ t.constant) ≤ℤ pos 0 = subst (λ (z : ℤ). ((z *ℤ s.least) +ℤ t.constant) ≤ℤ pos 0) e le in
      held-weaker y (negsuc 0) s.least (tightened t) entries sides.below (i.parts ∙ ap (λ z. (y, z) ∷ []) unit)
      (rounded-limit d t.constant (tightened t).constant s.least h i.up (omega (arith, ints, le, neg-mul (pos d) s.least)))

  by_value : (z : ℤ) → coefficient y t ≡ z → IsSummed x entries up low
  by_value (pos zero) e = bare e
  by_value (pos (suc r)) e =
      let some : coefficient y t ≡ pos 0 → ⊥ = λ f. omega (arith, ints, sym e ∙ f) in
      record {
        within = within some;
        held = positive (suc r) e (omega arith) (subst (IsAlone y t) (ap unsigned_abs e) (is-alone some));
      }
  by_value (negsuc r) e =
      let some : coefficient y t ≡ pos 0 → ⊥ = λ f. omega (arith, ints, sym e ∙ f) in
      record {
        within = within some;
        held = negative (suc r) e (omega arith) (subst (IsAlone y t) (ap unsigned_abs e) (is-alone some));
      }

-- In the code

pub names-length : (y : ℕ) (ps : List (ℕ × ℤ)) → names_two y ps ≡ true → length ps ≡ 2
names-length y [] h = absurd (no_way (sym h))
names-length y (p ∷ []) h = absurd (no_way (sym h))
names-length y (p ∷ q ∷ []) h = refl
names-length y (p ∷ q ∷ r ∷ ps) h = absurd (no_way (sym h))

pub row-term : (entries : List Entry) (i : ℕ) → AreTermEntries entries → i < length entries → IsTerm (sum_at entries i)
row-term entries i t h = IsTerm-from_test (sum_at entries i) (t.greatest i h)

pub part-small : (entries : List Entry) (i k : ℕ) (ps : List (ℕ × ℤ)) → AreTermEntries entries → i < length entries →
    ps ≡ (sum_at entries i).parts → k < length ps → unsigned_abs (slice_index_or ps k (0, pos 0)).1 ≤ 2 ^ 40
part-small entries i k ps t h e l =
    AllWithin-at ps k l (subst (λ (qs : List (ℕ × ℤ)). AllWithin qs) (sym e) (row-term entries i t h).within.coefficients)

pub sum-cast : (m m' a a' n n' b b' : ℤ) → m' ≡ m → a' ≡ a → n' ≡ n → b' ≡ b → (m' *ℤ a') +ℤ (n' *ℤ b') ≡ (m *ℤ a) +ℤ (n *ℤ b)
sum-cast m m' a a' n n' b b' e f g h = λ i. (e i *ℤ f i) +ℤ (g i *ℤ h i)

pub size-cast : (n : ℕ) → n ≤ 2 ^ 40 → unsigned_abs (to_z w64 n) ≤ 2 ^ 40
size-cast n h = omega (arith, ints, h, ap unsigned_abs (cast_divisor n h))

pub wide-cast : (z : ℤ) (n : ℕ) → unsigned_abs z ≤ n → n ≤ 2 ^ 84 → unsigned_abs (to_z w128 (of_z w128 z)) ≤ n
wide-cast z n h k = omega (arith, h, ap unsigned_abs (cast_wide z (omega (arith, h, k))))

-- the value of a row where its column has this value
pub value-cast : (c w k : ℤ) → unsigned_abs c ≤ 2 ^ 40 → unsigned_abs w ≤ 2 ^ 84 → unsigned_abs k ≤ 2 ^ 84 →
    to_z w128 (of_z w128 (to_z w128 (of_z w128 (to_z w128 (of_z w128 c) *ℤ to_z w128 (of_z w128 w))) +ℤ to_z w128 (of_z w128 k)))
    ≡ (c *ℤ w) +ℤ k
value-cast c w k hc hw hk =
    let e : to_z w128 (of_z w128 c) ≡ c = cast_wide c (omega (arith, hc)) in
    let f : to_z w128 (of_z w128 w) ≡ w = cast_wide w (omega (arith, hw)) in
    let g : to_z w128 (of_z w128 k) ≡ k = cast_wide k (omega (arith, hk)) in
    let small : unsigned_abs c * unsigned_abs w ≤ 2 ^ 40 * 2 ^ 84 = mul-le-mul hc hw in
    let product : unsigned_abs (c *ℤ w) ≤ 2 ^ 124 = omega (arith, small, unsigned_abs-mul c w) in
    let h : to_z w128 (of_z w128 (to_z w128 (of_z w128 c) *ℤ to_z w128 (of_z w128 w))) ≡ c *ℤ w =
    ap (λ z. to_z w128 (of_z w128 (z *ℤ to_z w128 (of_z w128 w)))) e ∙ ap (λ z. to_z w128 (of_z w128 (c *ℤ z))) f
    ∙ cast_wide (c *ℤ w) (omega (arith, product)) in
    ap (λ z. to_z w128 (of_z w128 (z +ℤ to_z w128 (of_z w128 k)))) h ∙ ap (λ z. to_z w128 (of_z w128 ((c *ℤ w) +ℤ z))) g
    ∙ cast_wide ((c *ℤ w) +ℤ k) (sum-small (c *ℤ w) k product hk) where
      sum-small : (a b : ℤ) → unsigned_abs a ≤ 2 ^ 124 → unsigned_abs b ≤ 2 ^ 84 → unsigned_abs (a +ℤ b) ≤ 2 ^ 126
      sum-small a b h k = omega (arith, ints, h, k)

pub zero-times : (c w k : ℤ) → c ≡ pos 0 → (c *ℤ w) +ℤ k ≡ k
zero-times c w k e = ap (λ z. (z *ℤ w) +ℤ k) e ∙ zero-first w k where
  zero-first : (w k : ℤ) → (pos 0 *ℤ w) +ℤ k ≡ k
  zero-first w k = omega (arith, ints)

pub outdone-cast : (s : Sides) (c k d r : ℤ) → d ≡ c → r ≡ k → IsOutdone s d r → IsOutdone s c k
outdone-cast s c k d r e f h =
    subst (λ (z : ℤ). IsOutdone s z k) e (subst (λ (z : ℤ). IsOutdone s d z) f h)

-- a row of one column that stands in a table
pub held-at : (y : ℕ) (a c : ℤ) (entries : List Entry) (i : ℕ) (ps : List (ℕ × ℤ)) → i < length entries → (sum_at entries i).parts ≡ ps →
    ps ≡ (y, a) ∷ [] → c ≡ (sum_at entries i).constant → IsHeld (single y a c) entries
held-at y a c entries i ps h e f g = inr (i, h, e ∙ f, omega (arith, ints, g))

pub neg-cast : (z : ℤ) → unsigned_abs z ≤ 2 ^ 84 → to_z w128 (of_z w128 (pos 0 -ℤ to_z w128 (of_z w128 z))) ≡ neg_ℤ z
neg-cast z h =
    ap (λ y. to_z w128 (of_z w128 (pos 0 -ℤ y))) (cast_wide z (omega (arith, h))) ∙ cast_wide (pos 0 -ℤ z) (less z h) ∙ minus z where
      less : (z : ℤ) → unsigned_abs z ≤ 2 ^ 84 → unsigned_abs (pos 0 -ℤ z) ≤ 2 ^ 126
      less z h = omega (arith, ints, h)

      minus : (z : ℤ) → pos 0 -ℤ z ≡ neg_ℤ z
      minus z = omega (arith, ints)

pub neg-neg : (z : ℤ) → neg_ℤ (neg_ℤ z) ≡ z
neg-neg z = omega (arith, ints)

pub abs-neg : (z : ℤ) (n : ℕ) → unsigned_abs z ≤ n → unsigned_abs (neg_ℤ z) ≤ n
abs-neg z n h = omega (arith, ints, h)

-- sides of a table are sides of the grown one
pub sides-then : (x : ℕ) (s : Sides) (old new : List Entry) → IsGrown x old new → AreSides s old → AreSides s new
sides-then x s old new g h = record {
  above = held-then (single s.column (pos 1) (neg_ℤ s.greatest)) old new g.held h.above;
  below = held-then (single s.column (negsuc 0) s.least) old new g.held h.below;
  greatest_limit = h.greatest_limit;
  least_limit = h.least_limit;
}

pub sides-stay : (x : ℕ) (o : Option Sides) (old new : List Entry) → IsGrown x old new → IfSome o (λ s. AreSides s old) →
    IfSome o (λ s. AreSides s new)
sides-stay x None old new g h = h
sides-stay x (Some s) old new g h = sides-then x s old new g h
