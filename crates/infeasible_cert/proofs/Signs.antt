-- Signs of products, and bounds of values.
use Rattle.std.proofs.Common.{suc, zero, ◌<◌, ◌^◌, ℤ, pos, negsuc, ◌+ℤ◌, ◌*ℤ◌, arith}
use Rattle.std.specs.Prelude.{IsTrue, ◌≤ℤ◌, ◌<ℤ◌}
use Rattle.std.proofs.lemmas.Int.{ints}
use borrow.Author.Tests.{ltb-true}
use Rattle.linear_formula.specs.LinearSum.{is64}
use Rattle.linear_formula.proofs.Ring.{mul-add}

-- a multiple of a number that is at most 0
pub mul_nonpos : (a b : ℤ) → pos 0 ≤ℤ a → b ≤ℤ pos 0 → (a *ℤ b) ≤ℤ pos 0
mul_nonpos (pos m) (pos zero) h k = omega (arith, ints)
mul_nonpos (pos m) (pos (suc n)) h k = absurd (omega (arith, ints))
mul_nonpos (pos m) (negsuc n) h k = omega (arith, ints)
mul_nonpos (negsuc m) b h k = absurd (omega (arith, ints))

-- a whole number of which a multiple is below the multiplier
pub below_multiplier : (d z : ℤ) → pos 1 ≤ℤ d → (d *ℤ z) <ℤ d → z ≤ℤ pos 0
below_multiplier (negsuc m) z h k = absurd (omega (arith, ints))
below_multiplier (pos m) (negsuc n) h k = omega (arith, ints)
below_multiplier (pos m) (pos zero) h k = omega (arith, ints)
below_multiplier (pos m) (pos (suc n)) h k = absurd (omega (arith, ints))

-- d·s + c ≤ 0, with k the least number that is not below c / d
pub rounded_nonpos : (d s c k : ℤ) → pos 1 ≤ℤ d → ((d *ℤ s) +ℤ c) ≤ℤ pos 0 → (d *ℤ k) <ℤ (c +ℤ d) → (s +ℤ k) ≤ℤ pos 0
rounded_nonpos d s c k h le lt =
    below_multiplier d (s +ℤ k) h (omega (arith, ints, mul-add d s k))

pub is64-bounds : (z : ℤ) → IsTrue (is64 z) → (z ≤ℤ pos 9223372036854775807) × (negsuc 9223372036854775807 ≤ℤ z)
is64-bounds (pos n) h =
    let lt : n < 2 ^ 63 = ltb-true n (2 ^ 63) h in
    (omega (arith, ints), omega (arith, ints))
is64-bounds (negsuc n) h =
    let lt : n < 2 ^ 63 = ltb-true n (2 ^ 63) h in
    (omega (arith, ints), omega (arith, ints))
