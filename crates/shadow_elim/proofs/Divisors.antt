-- The greatest common divisor.
use Rattle.std.proofs.Common.{◌≡◌, ℕ, suc, zero, ◌<◌, ◌≤◌, ◌%◌, Bool, true, false, eqb, ◌==◌, ◌&&◌, arith, refl, sym, ◌∙◌, subst}
use Rattle.std.specs.Prelude.{if◌then◌else◌}
use Rattle.std.specs.Int.{IsGcd, ◌∣◌}
use Rattle.std.proofs.Math.Nat.{mod-lt, mod-one, mod-zero}
use Rattle.std.proofs.lemmas.Bool.{eqb-true, eq-eqb, and_parts, and_from}
use borrow.Author.Tests.{eqb_apart}
use Rattle.std.proofs.lemmas.Nat.Gcd.{dvd_of_mod-eq-zero, mod-eq-zero_of_dvd, le_of_dvd, IsGcd-from_zero, IsGcd-from_mod, IsGcd-swap, same_from_IsGcd, le_from_IsGcd}
use Rattle.shadow_elim.specs.Division.{common_divisor, common_divisor_up_to}

no_way : true ≡ false → ⊥
no_way h = cc

-- there is one
pub has_gcd : (fuel a b : ℕ) → b < fuel → (g : ℕ) × IsGcd a b g
has_gcd zero a b h = absurd (omega (arith, h))
has_gcd (suc n) a zero h = (a, IsGcd-from_zero a 0 refl)
has_gcd (suc n) a (suc b) h =
    let rest = has_gcd n (suc b) (a % suc b) (omega (arith, h, mod-lt a {m = suc b} (omega arith))) in
    (rest.0, IsGcd-from_mod a (suc b) rest.0 rest.1)

positive_divisor : (d n : ℕ) → 0 < n → d ∣ n → 0 < d
positive_divisor zero n h k = absurd (omega (arith, h, mod-eq-zero_of_dvd 0 k, mod-zero n))
positive_divisor (suc d) n h k = omega arith

-- what the search down finds
record IsFound (n a b r : ℕ) : Type 0 where
  above : 0 < r
  left : r ∣ a
  right : r ∣ b
  greatest : (d : ℕ) → d ≤ n → d ∣ a → d ∣ b → d ≤ r

found-here : (n a b : ℕ) → ((a % suc n == 0) && (b % suc n == 0)) ≡ true → IsFound (suc n) a b (suc n)
found-here n a b e =
    let ts = and_parts (a % suc n == 0) (b % suc n == 0) e in
    record {
      above = omega arith;
      left = dvd_of_mod-eq-zero (suc n) (eqb-true (a % suc n) 0 ts.0);
      right = dvd_of_mod-eq-zero (suc n) (eqb-true (b % suc n) 0 ts.1);
      greatest = λ d h l r. h;
    }

found-below : (n a b r : ℕ) → ((a % suc n == 0) && (b % suc n == 0)) ≡ false → IsFound n a b r → IsFound (suc n) a b r
found-below n a b r e k = record {
  above = k.above;
  left = k.left;
  right = k.right;
  greatest = λ d h l m. at_most d h l m (eqb d (suc n)) refl;
} where
  at_most : (d : ℕ) → d ≤ suc n → d ∣ a → d ∣ b → (t : Bool) → eqb d (suc n) ≡ t → d ≤ r
  at_most d h l m true f =
      let same : d ≡ suc n = eqb-true d (suc n) f in
      let ld : suc n ∣ a = subst (λ (x : ℕ). x ∣ a) same l in
      let md : suc n ∣ b = subst (λ (x : ℕ). x ∣ b) same m in
      absurd (no_way (sym (and_from (a % suc n == 0) (b % suc n == 0) (eq-eqb (a % suc n) 0 (mod-eq-zero_of_dvd (suc n) ld))
      (eq-eqb (b % suc n) 0 (mod-eq-zero_of_dvd (suc n) md))) ∙ e))
  at_most d h l m false f = k.greatest d (omega (arith, h, eqb_apart d (suc n) f)) l m

found : (n a b : ℕ) → IsFound (suc n) a b (common_divisor_up_to (suc n) a b)
found zero a b =
    let one : ((a % 1 == 0) && (b % 1 == 0)) ≡ true = and_from (a % 1 == 0) (b % 1 == 0) (eq-eqb (a % 1) 0 (mod-one a))
    (eq-eqb (b % 1) 0 (mod-one b)) in
    rw one (found-here 0 a b one)
found (suc n) a b = by_test ((a % suc (suc n) == 0) && (b % suc (suc n) == 0)) refl (found n a b) where
  by_test : (t : Bool) → ((a % suc (suc n) == 0) && (b % suc (suc n) == 0)) ≡ t → IsFound (suc n) a b (common_divisor_up_to (suc n) a b) →
      IsFound (suc (suc n)) a b (if t then suc (suc n) else common_divisor_up_to (suc n) a b)
  by_test true e k = found-here (suc n) a b e
  by_test false e k = found-below (suc n) a b (common_divisor_up_to (suc n) a b) e k

pub IsGcd-common_divisor : (a b : ℕ) → IsGcd a b (common_divisor a b)
IsGcd-common_divisor zero b = IsGcd-swap b 0 b (IsGcd-from_zero b 0 refl)
IsGcd-common_divisor (suc a) b =
    let k = found a (suc a) b in
    let r = common_divisor_up_to (suc a) (suc a) b in
    let there = has_gcd (suc b) (suc a) b (omega arith) in
    let positive : 0 < there.0 = positive_divisor there.0 (suc a) (omega arith) there.1.0 in
    let up : r ≤ there.0 = le_from_IsGcd (suc a) b there.0 r there.1 positive k.left k.right in
    let down : there.0 ≤ r = k.greatest there.0 (le_of_dvd (omega arith) there.1.0) there.1.0 there.1.1 in
    let same : there.0 ≡ r = omega arith in
    subst (λ (g : ℕ). IsGcd (suc a) b g) same there.1

pub common_divisor_is : (a b g : ℕ) → IsGcd a b g → g ≡ common_divisor a b
common_divisor_is a b g h = same_from_IsGcd a b g (common_divisor a b) h (IsGcd-common_divisor a b)

-- every number is divided by 1
pub common_divisor-one : (a : ℕ) → common_divisor a 1 ≡ 1
common_divisor-one a =
    let k = IsGcd-common_divisor a 1 in
    let low : common_divisor a 1 ≤ 1 = le_of_dvd (omega arith) k.1 in
    let positive : 0 < common_divisor a 1 = positive_divisor (common_divisor a 1) 1 (omega arith) k.1 in
    omega arith

pub common_divisor-positive : (a b : ℕ) → 0 < a → 0 < common_divisor a b
common_divisor-positive a b h =
    positive_divisor (common_divisor a b) a h (IsGcd-common_divisor a b).0

pub common_divisor-small : (a b : ℕ) → 0 < a → common_divisor a b ≤ a
common_divisor-small a b h = le_of_dvd h (IsGcd-common_divisor a b).0
