-- Tightened rows: what divides them, and where they are met.
use Rattle.std.proofs.Common.{◌≡◌, ℕ, suc, zero, ◌<◌, ◌≤◌, ◌+◌, ◌*◌, ◌/◌, ◌%◌, ◌==◌, ◌&&◌, Bool, true, false, List, [], ◌∷◌, ℤ, pos, negsuc, ◌+ℤ◌, ◌-ℤ◌, ◌*ℤ◌, neg_ℤ, ◌↔◌, nat_lt, arith, refl, sym, ap, ◌∙◌}
use Rattle.std.specs.Prelude.{IsTrue, ◌≤ℤ◌, ◌<ℤ◌, unsigned_abs, if◌then◌else◌}
use Rattle.std.proofs.lemmas.Int.{ints, unsigned_abs-mul}
use Rattle.std.proofs.lemmas.Nat.Gcd.{dvd_refl, dvd-zero, dvd_trans, dvd_of_mod-eq-zero, mod-eq-zero_of_dvd}
use Prim.Native.Nat.{◌∣◌}
use borrow.Author.Tests.{ltb-true, eqb-true, eq-eqb}
use borrow.Author.Differences.{up, down, neg_is}
use Rattle.std.proofs.Math.Nat.{mul-le-mul}
use mathlib.Core.Bool.{true≢false}
use Rattle.linear_formula.specs.LinearSum.{LinearSum, Valuation, value_of, value_of_parts, listed_at, coefficient, is_term}
use Rattle.linear_formula.specs.steps.Order.{InOrder, AllWithin}
use Rattle.linear_formula.proofs.Ring.{mul-add, one-mul, mul-zero, mul-step}
use Rattle.linear_formula.proofs.Limits.{IsTerm-from_test, test-from_IsTerm}
use Rattle.linear_formula.proofs.Values.{chosen_of_two}
use Rattle.infeasible_cert.specs.Right.{IsRoundedUp}
use Rattle.infeasible_cert.proofs.Signs.{below_multiplier, rounded_nonpos, mul_nonpos}
use Rattle.shadow_elim.specs.Division.{common_divisor_up_to, common_divisor, parts_divisor, floor_quotient, ceiling_quotient, divided_parts, divided, row_divisor, tightened}
use Rattle.shadow_elim.proofs.Tests.{first_true, second_true}
use Rattle.shadow_elim.proofs.Dividing.{length-divided}

-- Common divisors

one-divides : (n : ℕ) → 1 ∣ n
one-divides n = dvd_of_mod-eq-zero 1 (omega arith)

pub divides-up_to : (n a b : ℕ) → (common_divisor_up_to (suc n) a b ∣ a) × (common_divisor_up_to (suc n) a b ∣ b)
divides-up_to zero a b =
    chosen_of_two (λ r. (r ∣ a) × (r ∣ b)) ((a % 1 == 0) && (b % 1 == 0)) 1 0 (λ _. (one-divides a, one-divides b))
    (λ e. absurd (never e)) where
      both_true : (s t : Bool) → s ≡ true → t ≡ true → (s && t) ≡ true
      both_true true t h k = k
      both_true false t h k = h

      never : ((a % 1 == 0) && (b % 1 == 0)) ≡ false → ⊥
      never e =
          let f : (a % 1 == 0) ≡ true = eq-eqb (a % 1) 0 (omega arith) in
          let g : (b % 1 == 0) ≡ true = eq-eqb (b % 1) 0 (omega arith) in
          true≢false (sym (both_true (a % 1 == 0) (b % 1 == 0) f g) ∙ e)
divides-up_to (suc m) a b =
    chosen_of_two (λ r. (r ∣ a) × (r ∣ b)) ((a % suc (suc m) == 0) && (b % suc (suc m) == 0)) (suc (suc m))
    (common_divisor_up_to (suc m) a b)
    (λ e. (
      dvd_of_mod-eq-zero (suc (suc m)) (eqb-true (a % suc (suc m)) 0 (first_true (a % suc (suc m) == 0) (b % suc (suc m) == 0) e)),
      dvd_of_mod-eq-zero (suc (suc m)) (eqb-true (b % suc (suc m)) 0 (second_true (a % suc (suc m) == 0) (b % suc (suc m) == 0) e)),
    )) (λ _. divides-up_to m a b)

pub divides-common : (a b : ℕ) → (common_divisor a b ∣ a) × (common_divisor a b ∣ b)
divides-common zero b = (dvd-zero b, dvd_refl b)
divides-common (suc a) b = divides-up_to a (suc a) b

-- the number divides each coefficient
abbrev pub DividesAll : ℕ → List (ℕ × ℤ) → Type 0
DividesAll d [] = Unit {0}
DividesAll d (p ∷ ps) = (d ∣ unsigned_abs p.1) × DividesAll d ps

divides-all_of : (d e : ℕ) (ps : List (ℕ × ℤ)) → d ∣ e → DividesAll e ps → DividesAll d ps
divides-all_of d e [] h k = tt
divides-all_of d e (p ∷ ps) h k = (dvd_trans d h k.0, divides-all_of d e ps h k.1)

pub parts_divisor-divides : (ps : List (ℕ × ℤ)) → DividesAll (parts_divisor ps) ps
parts_divisor-divides [] = tt
parts_divisor-divides (p ∷ ps) =
    let c = divides-common (unsigned_abs p.1) (parts_divisor ps) in
    (c.0, divides-all_of (common_divisor (unsigned_abs p.1) (parts_divisor ps)) (parts_divisor ps) ps c.1 (parts_divisor-divides ps))

-- Quotients

pub mul-neg : (a b : ℤ) → a *ℤ neg_ℤ b ≡ neg_ℤ (a *ℤ b)
mul-neg a b = omega (
  arith,
  ints,
  ap (λ n. up a * n) (neg_is b).0,
  ap (λ n. up a * n) (neg_is b).1,
  ap (λ n. down a * n) (neg_is b).0,
  ap (λ n. down a * n) (neg_is b).1,
)

pub floor-bounds : (z : ℤ) (d : ℕ) → 0 < d → ((pos d *ℤ floor_quotient z d) ≤ℤ z) × (z <ℤ ((pos d *ℤ floor_quotient z d) +ℤ pos d))
floor-bounds (pos a) d h = (omega (arith, ints), omega (arith, ints))
floor-bounds (negsuc a) d h = (omega (arith, ints), omega (arith, ints))

pub ceiling-bounds : (z : ℤ) (d : ℕ) → 0 < d → IsRoundedUp z (pos d) (ceiling_quotient z d)
ceiling-bounds z d h =
    let b = floor-bounds (neg_ℤ z) d h in
    let e = mul-neg (pos d) (floor_quotient (neg_ℤ z) d) in
    (omega (arith, ints, b.0, b.1, e), omega (arith, ints, b.0, b.1, e))

-- a number between two multiples that follow is no other multiple
pub same_quotient : (d : ℕ) (f c : ℤ) → 0 < d → (pos d *ℤ f) ≤ℤ (pos d *ℤ c) → (pos d *ℤ c) <ℤ ((pos d *ℤ f) +ℤ pos d) → f ≡ c
same_quotient d f c h lo hi =
    let above = below_multiplier (pos d) (f -ℤ c) (omega (arith, ints, h))
    (omega (arith, ints, mul-add (pos d) (f -ℤ c) c, ap (λ z. pos d *ℤ z) (apart f c))) in
    let below = below_multiplier (pos d) (c -ℤ f) (omega (arith, ints, h))
    (omega (arith, ints, mul-add (pos d) (c -ℤ f) f, ap (λ z. pos d *ℤ z) (apart c f))) in
    omega (arith, ints, above, below) where
      apart : (a b : ℤ) → (a -ℤ b) +ℤ b ≡ a
      apart a b = omega (arith, ints)

divided_by : (z : ℤ) (d : ℕ) → 0 < d → d ∣ unsigned_abs z → (c : ℤ) × (z ≡ pos d *ℤ c)
divided_by (pos a) d h k =
    let e : a % d ≡ 0 = mod-eq-zero_of_dvd d k in
    (pos (a / d), omega (arith, ints, e))
divided_by (negsuc a) d h k =
    let e : suc a % d ≡ 0 = mod-eq-zero_of_dvd d k in
    (neg_ℤ (pos (suc a / d)), omega (arith, ints, e, mul-neg (pos d) (pos (suc a / d))))

-- an exact quotient
pub floor-exact : (z : ℤ) (d : ℕ) → 0 < d → d ∣ unsigned_abs z → z ≡ pos d *ℤ floor_quotient z d
floor-exact z d h k =
    let c = divided_by z d h k in
    let b = floor-bounds z d h in
    let same = same_quotient d (floor_quotient z d) c.0 h (omega (arith, ints, b.0, c.1)) (omega (arith, ints, b.1, c.1)) in
    c.1 ∙ ap (λ y. pos d *ℤ y) (sym same)

-- Tightened rows

value-divided : (v : Valuation) (d : ℕ) (ps : List (ℕ × ℤ)) → 0 < d → DividesAll d ps → value_of_parts v ps ≡ pos d *ℤ value_of_parts v
    (divided_parts d ps)
value-divided v d [] h k = omega (arith, ints)
value-divided v d (p ∷ ps) h k =
    let e = floor-exact p.1 d h k.0 in
    let i = value-divided v d ps h k.1 in
    omega (arith, ints, mul-step (pos d) (floor_quotient p.1 d) (v p.0) (value_of_parts v (divided_parts d ps)), ap (λ z. z *ℤ v p.0) e, i)

listed-divided : (x d : ℕ) (ps : List (ℕ × ℤ)) → 0 < d → DividesAll d ps → listed_at x ps ≡ pos d *ℤ listed_at x (divided_parts d ps)
listed-divided x d [] h k = omega (arith, ints)
listed-divided x d (p ∷ ps) h k =
    by_test (x == p.0) (floor-exact p.1 d h k.0) (listed-divided x d ps h k.1) where
      by_test : (b : Bool) → p.1 ≡ pos d *ℤ floor_quotient p.1 d → listed_at x ps ≡ pos d *ℤ listed_at x (divided_parts d ps) →
          (if b then p.1 else listed_at x ps) ≡ pos d *ℤ (if b then floor_quotient p.1 d else listed_at x (divided_parts d ps))
      by_test true e i = e
      by_test false e i = i

smaller : (d : ℕ) (z y : ℤ) → 0 < d → z ≡ pos d *ℤ y → unsigned_abs y ≤ unsigned_abs z
smaller d z y h e =
    let p = unsigned_abs-mul (pos d) y ∙ refl in
    let m : 1 * unsigned_abs y ≤ d * unsigned_abs y = mul-le-mul h (le_refl (unsigned_abs y)) in
    omega (arith, p, m, ap unsigned_abs e) where
      le_refl : (n : ℕ) → n ≤ n
      le_refl n = omega arith

order-divided : (low d : ℕ) (ps : List (ℕ × ℤ)) → 0 < d → DividesAll d ps → InOrder low ps → InOrder low (divided_parts d ps)
order-divided low d [] h k o = tt
order-divided low d (p ∷ ps) h k o =
    (o.0, o.1, (λ e. o.2 (floor-exact p.1 d h k.0 ∙ ap (λ z. pos d *ℤ z) e ∙ mul-zero (pos d))), order-divided (p.0 + 1) d ps h k.1 o.3)

within-divided : (d : ℕ) (ps : List (ℕ × ℤ)) → 0 < d → DividesAll d ps → AllWithin ps → AllWithin (divided_parts d ps)
within-divided d [] h k w = tt
within-divided d (p ∷ ps) h k w =
    (omega (arith, smaller d p.1 (floor_quotient p.1 d) h (floor-exact p.1 d h k.0), w.0), within-divided d ps h k.1 w.1)

quotient-small : (n d : ℕ) → 0 < d → n / d ≤ n
quotient-small n d h =
    let m : 1 * (n / d) ≤ d * (n / d) = mul-le-mul h (le_refl (n / d)) in
    omega (arith, m) where
      le_refl : (k : ℕ) → k ≤ k
      le_refl k = omega arith

abs-neg : (z : ℤ) → unsigned_abs (neg_ℤ z) ≡ unsigned_abs z
abs-neg (pos zero) = refl
abs-neg (pos (suc n)) = refl
abs-neg (negsuc n) = refl

ceiling-small : (z : ℤ) (d : ℕ) → 0 < d → unsigned_abs (ceiling_quotient z d) ≤ unsigned_abs z
ceiling-small (pos zero) d h = omega (arith, ints, quotient-small 0 d h)
ceiling-small (pos (suc n)) d h = omega (arith, ints, quotient-small n d h)
ceiling-small (negsuc n) d h = omega (arith, ints, quotient-small (suc n) d h, abs-neg (pos (suc n / d)))

-- s is t divided by d, with the constant rounded up
pub record IsTightened (t s : LinearSum) (d : ℕ) : Type 0 where
  pub positive : 0 < d
  pub value : (v : Valuation) → value_of_parts v t.parts ≡ pos d *ℤ value_of_parts v s.parts
  pub coefficients : (x : ℕ) → coefficient x t ≡ pos d *ℤ coefficient x s
  pub constant : IsRoundedUp t.constant (pos d) s.constant
  pub term : IsTrue (is_term t) → IsTrue (is_term s)

pub tightened-is : (t : LinearSum) → IsTightened t (tightened t) (row_divisor t)
tightened-is t = by_test (nat_lt 1 (parts_divisor t.parts)) refl where
  by_test : (b : Bool) → nat_lt 1 (parts_divisor t.parts) ≡ b → IsTightened t (if b then divided (parts_divisor t.parts) t else t)
      (if b then parts_divisor t.parts else 1)
  by_test true e =
      let d = parts_divisor t.parts in
      let h : 0 < parts_divisor t.parts = omega (arith, ltb-true 1 (parts_divisor t.parts) e) in
      let k = parts_divisor-divides t.parts in
      record {
        positive = h;
        value = λ v. value-divided v d t.parts h k;
        coefficients = λ x. listed-divided x d t.parts h k;
        constant = ceiling-bounds t.constant d h;
        term = λ i. let j = IsTerm-from_test t i in test-from_IsTerm (divided d t) (record {
          order = order-divided 0 d t.parts h k j.order;
          within = record {
            count = omega (arith, length-divided d t.parts, j.within.count);
            coefficients = within-divided d t.parts h k j.within.coefficients;
            constant_limit = omega (arith, ceiling-small t.constant d h, j.within.constant_limit);
          };
        });
      }
  by_test false e = record {
    positive = omega arith;
    value = λ v. sym (one-mul (value_of_parts v t.parts));
    coefficients = λ x. sym (one-mul (coefficient x t));
    constant = (omega (arith, ints, one-mul t.constant), omega (arith, ints, one-mul t.constant));
    term = λ i. i;
  }

-- the same integers meet a row and its tightened one
pub tightened-meets : (v : Valuation) (t : LinearSum) → (value_of v t ≤ℤ pos 0) ↔ (value_of v (tightened t) ≤ℤ pos 0)
tightened-meets v t =
    let k = tightened-is t in
    let d = row_divisor t in
    let s = tightened t in
    meets (pos (row_divisor t)) (value_of_parts v (tightened t).parts) t.constant (tightened t).constant (value_of_parts v t.parts)
    (omega (arith, ints, k.positive)) (k.value v) k.constant where
      meets : (d s c k p : ℤ) → pos 1 ≤ℤ d → p ≡ d *ℤ s → IsRoundedUp c d k → ((p +ℤ c) ≤ℤ pos 0) ↔ ((s +ℤ k) ≤ℤ pos 0)
      meets d s c k p h e r = (
        λ g. rounded_nonpos d s c k h (omega (arith, ints, e, g)) r.1,
        λ g. omega (arith, ints, e, mul-add d s k, mul_nonpos d (s +ℤ k) (omega (arith, ints, h)) g, r.0),
      )

pub tightened-term : (t : LinearSum) → IsTrue (is_term t) → IsTrue (is_term (tightened t))
tightened-term t h = (tightened-is t).term h

-- a tightened row names no other columns
pub tightened-absent : (x : ℕ) (t : LinearSum) → coefficient x t ≡ pos 0 → coefficient x (tightened t) ≡ pos 0
tightened-absent x t h =
    let k = tightened-is t in
    no_multiple (row_divisor t) (coefficient x (tightened t)) k.positive (sym h ∙ k.coefficients x) where
      no_multiple : (d : ℕ) (c : ℤ) → 0 < d → pos 0 ≡ pos d *ℤ c → c ≡ pos 0
      no_multiple d c h e =
          sym (same_quotient d (pos 0) c h (omega (arith, ints, e, mul-zero (pos d))) (omega (arith, ints, e, h, mul-zero (pos d))))
