-- The quotient by a constant is the one number that meets two rows, on each side of 0.
use Rattle.std.proofs.Common.{◌≡◌, ℕ, zero, suc, ◌+◌, ◌*◌, ◌-◌, ◌/◌, ◌%◌, ◌<◌, ◌≤◌, ℤ, pos, negsuc, ◌+ℤ◌, ◌*ℤ◌, neg_ℤ, ◌≤ℤ◌, ◌<ℤ◌, int_div, arith, refl, sym, ap, ◌∙◌}
use Rattle.std.proofs.lemmas.Int.{ints}
use Rattle.std.proofs.lemmas.Nat.{div-mul-add}
use native.Mathlib.Nat.{div-add-mod', mod-lt}

-- a number between two multiples
between : (m k n : ℕ) → m * k ≤ n → n < m * k + k → n / k ≡ m
between m k n low high =
    let e : m * k + (n - m * k) ≡ n = omega (arith, low) in
    ap (λ x. x / k) (sym e) ∙ div-mul-add m k (n - m * k) (omega (arith, low, high))

-- From 0 on: k q ≤ a and a < k q + k
pub one_above : (b n : ℕ) (q : ℤ) → (pos (suc b) *ℤ q) ≤ℤ pos n → pos n <ℤ ((pos (suc b) *ℤ q) +ℤ pos (suc b)) →
    q ≡ int_div (pos n) (pos (suc b))
one_above b n (pos m) low high =
    ap pos (sym (between m (suc b) n (omega (arith, ints, low)) (omega (arith, ints, high))))
one_above b n (negsuc m) low high = absurd (omega (arith, ints, low, high))

pub rows_above : (b n : ℕ) → ((pos (suc b) *ℤ int_div (pos n) (pos (suc b))) ≤ℤ pos n)
    × (pos n <ℤ ((pos (suc b) *ℤ int_div (pos n) (pos (suc b))) +ℤ pos (suc b)))
rows_above b n =
    let split = div-add-mod' n (suc b) in
    let small : n % suc b < suc b = mod-lt n (omega arith) in
    (omega (arith, ints, split, small), omega (arith, ints, split, small))

-- Below 0: a ≤ k q and k q < a + k
pub one_below : (b n : ℕ) (q : ℤ) → negsuc n ≤ℤ (pos (suc b) *ℤ q) → (pos (suc b) *ℤ q) <ℤ (negsuc n +ℤ pos (suc b)) →
    q ≡ int_div (negsuc n) (pos (suc b))
one_below b n (pos zero) low high =
    let small : suc n < suc b = omega (arith, ints, high) in
    ap (λ m. neg_ℤ (pos m)) (sym (between 0 (suc b) (suc n) (omega arith) (omega (arith, small))))
one_below b n (pos (suc m)) low high = absurd (omega (arith, ints, high))
one_below b n (negsuc m) low high =
    ap (λ x. neg_ℤ (pos x)) (sym (between (suc m) (suc b) (suc n) (omega (arith, ints, low)) (omega (arith, ints, high))))

pub rows_below : (b n : ℕ) → (negsuc n ≤ℤ (pos (suc b) *ℤ int_div (negsuc n) (pos (suc b))))
    × ((pos (suc b) *ℤ int_div (negsuc n) (pos (suc b))) <ℤ (negsuc n +ℤ pos (suc b)))
rows_below b n =
    by (suc n / suc b) (suc n % suc b) (div-add-mod' (suc n) (suc b)) (mod-lt (suc n) (omega arith))
  where
    by : (q r : ℕ) → q * suc b + r ≡ suc n → r < suc b → (negsuc n ≤ℤ (pos (suc b) *ℤ neg_ℤ (pos q)))
        × ((pos (suc b) *ℤ neg_ℤ (pos q)) <ℤ (negsuc n +ℤ pos (suc b)))
    by zero r e small = (omega (arith, ints, e, small), omega (arith, ints, e, small))
    by (suc q) r e small = (omega (arith, ints, e, small), omega (arith, ints, e, small))

-- by a negative divisor the quotient is the negative one
pub negated : (a : ℤ) (b : ℕ) → int_div a (negsuc b) ≡ (negsuc 0 *ℤ int_div a (pos (suc b)))
negated (pos n) b = by (n / suc b)
  where
    by : (m : ℕ) → neg_ℤ (pos m) ≡ (negsuc 0 *ℤ pos m)
    by zero = refl
    by (suc m) = omega (arith, ints)
negated (negsuc n) b = by (suc n / suc b)
  where
    by : (m : ℕ) → pos m ≡ (negsuc 0 *ℤ neg_ℤ (pos m))
    by zero = refl
    by (suc m) = omega (arith, ints)
