-- What the tests of numbers and of pairs of tests say.
use Rattle.std.proofs.Common.{◌≡◌, ℕ, ◌<◌, ◌≤◌, Bool, true, false, ℤ, ◌≤ℤ◌, ◌<ℤ◌, ◌&&◌, arith, refl}
use Rattle.std.specs.Prelude.{int_le, int_lt, nat_le}
use Rattle.std.proofs.lemmas.Bool.Decides.{nat_tests}
use Rattle.std.proofs.lemmas.Int.{ints}

pub first_true : (a b : Bool) → (a && b) ≡ true → a ≡ true
first_true true b h = refl
first_true false b h = h

pub second_true : (a b : Bool) → (a && b) ≡ true → b ≡ true
second_true true b h = h
second_true false b h = absurd (cc)

pub both_true : (a b : Bool) → a ≡ true → b ≡ true → (a && b) ≡ true
both_true true b h k = k
both_true false b h k = h

pub lt_yes : (y z : ℤ) → y <ℤ z → int_lt y z ≡ true
lt_yes y z h = grind (arith, ints)

pub lt_no : (y z : ℤ) → z ≤ℤ y → int_lt y z ≡ false
lt_no y z h = grind (arith, ints)

pub lt_from : (y z : ℤ) → int_lt y z ≡ true → y <ℤ z
lt_from y z h = grind (arith, ints)

pub le_from : (y z : ℤ) → int_le y z ≡ true → y ≤ℤ z
le_from y z h = grind (arith, ints)

pub at_most_yes : (n m : ℕ) → n ≤ m → nat_le n m ≡ true
at_most_yes n m h = grind (arith, nat_tests)

pub at_most_no : (n m : ℕ) → m < n → nat_le n m ≡ false
at_most_no n m h = grind (arith, nat_tests)
