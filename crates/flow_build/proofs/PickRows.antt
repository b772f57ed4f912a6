-- Rows of multiples of two slots are within the limits of terms.
use Rattle.std.proofs.Common.{◌≡◌, ℕ, zero, suc, ◌+◌, ◌^◌, ◌≤◌, nat_lt, nat_le, ◌==◌, List, [], ◌∷◌, length, Bool, true, false, ◌&&◌, ℤ, pos, negsuc, ◌+ℤ◌, ◌-ℤ◌, ◌*ℤ◌, neg_ℤ, to_z, of_z, SFits, IsTrue, refl, sym, ap, ◌∙◌, subst, arith}
use Rattle.std.specs.Prelude.{unsigned_abs, if◌then◌else◌}
use Rattle.std.proofs.lemmas.Bool.{le-leb}
use Rattle.std.specs.Int.{w64}
use Rattle.std.proofs.lemmas.Int.{ints, to_z-of_z, to_z_pos}
use Rattle.linear_formula.specs.LinearSum.{is_within, are_coefficients_within, is_zero}
use Rattle.linear_formula.specs.Results.{with_part}
use Rattle.linear_formula.proofs.Limits.{both_in}
use Rattle.flow_build.specs.steps.Operands.{multiple_row}

-- so few parts, with coefficients within the limit
abbrev Fine : List (ℕ × ℤ) → ℕ → Type 0
Fine ps n = IsTrue (are_coefficients_within ps) × (length ps ≤ n)

part_fine : (x : ℕ) (a : ℤ) (ps : List (ℕ × ℤ)) (n : ℕ) → unsigned_abs a ≤ 2 ^ 40 → Fine ps n → Fine ((x, a) ∷ ps) (1 + n)
part_fine x a ps n small h =
    let few = h.1 in (
      both_in (nat_le (unsigned_abs a) (2 ^ 40)) (are_coefficients_within ps) (le-leb (unsigned_abs a) (2 ^ 40) small) h.0,
      omega (arith, few),
    )

put_fine : (b : Bool) (x : ℕ) (a : ℤ) (ps : List (ℕ × ℤ)) (n : ℕ) → unsigned_abs a ≤ 2 ^ 40 → Fine ps n →
    Fine (if b then ps else ((x, a) ∷ ps)) (1 + n)
put_fine true x a ps n small h = let few = h.1 in (h.0, omega (arith, few))
put_fine false x a ps n small h = part_fine x a ps n small h

none_fine : (n : ℕ) → Fine [] n
none_fine n = (refl, omega arith)

chosen : (b c : Bool) (ps qs rs : List (ℕ × ℤ)) (n : ℕ) → Fine ps n → Fine qs n → Fine rs n →
    Fine (if b then ps else (if c then qs else rs)) n
chosen true c ps qs rs n h k l = h
chosen false true ps qs rs n h k l = k
chosen false false ps qs rs n h k l = l

with_fine : (b : Bool) (x y : ℕ) (p q : ℤ) → unsigned_abs p ≤ 2 ^ 40 → unsigned_abs q ≤ 2 ^ 40 → unsigned_abs (p +ℤ q) ≤ 2 ^ 40 →
    Fine (with_part x p (if b then [] else ((y, q) ∷ []))) 2
with_fine true x y p q hp hq hs = put_fine (is_zero p) x p [] 1 hp (none_fine 1)
with_fine false x y p q hp hq hs =
    chosen (nat_lt x y) (x == y) (if is_zero p then ((y, q) ∷ []) else ((x, p) ∷ (y, q) ∷ []))
    (if is_zero (p +ℤ q) then [] else ((x, p +ℤ q) ∷ [])) ((y, q) ∷ (if is_zero p then [] else ((x, p) ∷ []))) 2
    (put_fine (is_zero p) x p ((y, q) ∷ []) 1 hp (part_fine y q [] 0 hq (none_fine 0)))
    (put_fine (is_zero (p +ℤ q)) x (p +ℤ q) [] 1 hs (none_fine 1))
    (part_fine y q (if is_zero p then [] else ((x, p) ∷ [])) 1 hq (put_fine (is_zero p) x p [] 0 hp (none_fine 0)))

pub multiple_within : (c d : ℤ) (x y : ℕ) (k : ℤ) → unsigned_abs c ≤ 2 ^ 40 → unsigned_abs d ≤ 2 ^ 40 → unsigned_abs (c +ℤ d) ≤ 2 ^ 40 →
    unsigned_abs k ≤ 2 ^ 40 → IsTrue (is_within (multiple_row c d x y k).term)
multiple_within c d x y k hc hd hs hk =
    let Small : ℤ → Type 0 = λ z. unsigned_abs z ≤ 2 ^ 40 in
    let one_c : c ≡ c *ℤ pos 1 = omega (arith, ints) in
    let one_d : d ≡ d *ℤ pos 1 = omega (arith, ints) in
    let both : c +ℤ d ≡ (c *ℤ pos 1) +ℤ (d *ℤ pos 1) = omega (arith, ints) in
    let constant : k ≡ (c *ℤ pos 0) +ℤ ((d *ℤ pos 0) +ℤ k) = omega (arith, ints) in
    let fine = with_fine (is_zero (d *ℤ pos 1)) x y (c *ℤ pos 1) (d *ℤ pos 1) (subst Small one_c hc) (subst Small one_d hd)
    (subst Small both hs) in
    let t = (multiple_row c d x y k).term in
    let few = fine.1 in
    let low : unsigned_abs t.constant ≤ 2 ^ 40 = subst Small constant hk in
    both_in (nat_le (length t.parts) 1024 && are_coefficients_within t.parts) (nat_le (unsigned_abs t.constant) (2 ^ 84))
    (both_in (nat_le (length t.parts) 1024) (are_coefficients_within t.parts) (le-leb (length t.parts) 1024 (omega (arith, few))) fine.0)
    (le-leb (unsigned_abs t.constant) (2 ^ 84) (omega (arith, low)))

-- a magnitude as a coefficient, and another one of 1 with the other sign
pub less_within : (k x y : ℕ) (rest : ℤ) → k ≤ 2 ^ 40 → unsigned_abs rest ≤ 2 ^ 40 →
    IsTrue (is_within (multiple_row (pos k) (negsuc 0) x y rest).term)
less_within k x y rest low small =
    multiple_within (pos k) (negsuc 0) x y rest low (omega arith) (sum k low) small
  where
    sum : (k : ℕ) → k ≤ 2 ^ 40 → unsigned_abs (pos k +ℤ negsuc 0) ≤ 2 ^ 40
    sum zero low = omega arith
    sum (suc k) low =
        let one : pos k ≡ pos (suc k) +ℤ negsuc 0 = omega (arith, ints) in
        let P : ℤ → Type 0 = λ z. unsigned_abs z ≤ 2 ^ 40 in
        subst P one (omega (arith, low))

pub multiple_less_within : (k x y : ℕ) (rest : ℤ) → k ≤ 2 ^ 40 → unsigned_abs rest ≤ 2 ^ 40 →
    IsTrue (is_within (multiple_row (pos 1) (neg_ℤ (pos k)) x y rest).term)
multiple_less_within k x y rest low small =
    multiple_within (pos 1) (neg_ℤ (pos k)) x y rest (omega arith) (magnitude k low) (sum k low) small
  where
    magnitude : (k : ℕ) → k ≤ 2 ^ 40 → unsigned_abs (neg_ℤ (pos k)) ≤ 2 ^ 40
    magnitude zero low = omega arith
    magnitude (suc k) low = omega (arith, low)

    sum : (k : ℕ) → k ≤ 2 ^ 40 → unsigned_abs (pos 1 +ℤ neg_ℤ (pos k)) ≤ 2 ^ 40
    sum zero low = omega arith
    sum (suc zero) low = omega arith
    sum (suc (suc k)) low =
        let one : negsuc k ≡ pos 1 +ℤ negsuc (suc k) = omega (arith, ints) in
        let P : ℤ → Type 0 = λ z. unsigned_abs z ≤ 2 ^ 40 in
        subst P one (omega (arith, low))

-- the same of numbers as they are passed
module _ (k x y : ℕ) (rest : ℤ) (low : k ≤ 2 ^ 40) (fits : SFits w64 rest) (small : unsigned_abs rest ≤ 2 ^ 40) where
  magnitude_passed : to_z w64 k ≡ pos k
  magnitude_passed = to_z_pos w64 k (omega (arith, low))

  rest_passed : to_z w64 (of_z w64 rest) ≡ rest
  rest_passed = to_z-of_z w64 rest fits

  negated : (k : ℕ) → pos 0 -ℤ pos k ≡ neg_ℤ (pos k)
  negated zero = refl
  negated (suc k) = omega (arith, ints)

  pub negated_passed : to_z w64 (of_z w64 (pos 0 -ℤ to_z w64 k)) ≡ neg_ℤ (pos k)
  negated_passed =
      let passed : to_z w64 (of_z w64 (pos 0 -ℤ pos k)) ≡ pos 0 -ℤ pos k = to_z-of_z w64 (pos 0 -ℤ pos k) (omega (arith, ints, low)) in
      ap (λ z. to_z w64 (of_z w64 (pos 0 -ℤ z))) magnitude_passed ∙ passed ∙ negated k

  pub less_passed : IsTrue (is_within (multiple_row (to_z w64 k) (negsuc 0) x y (to_z w64 (of_z w64 rest))).term)
  less_passed =
      let P : ℤ → Type 0 = λ z. IsTrue (is_within (multiple_row (to_z w64 k) (negsuc 0) x y z).term) in
      let Q : ℤ → Type 0 = λ z. IsTrue (is_within (multiple_row z (negsuc 0) x y rest).term) in
      subst P (sym rest_passed) (subst Q (sym magnitude_passed) (less_within k x y rest low small))

  pub multiple_less_passed : IsTrue (is_within (multiple_row (pos 1) (to_z w64 (of_z w64 (pos 0 -ℤ to_z w64 k))) x y
      (to_z w64 (of_z w64 rest))).term)
  multiple_less_passed =
      let P : ℤ → Type 0 = λ z. IsTrue (is_within (multiple_row (pos 1) (to_z w64 (of_z w64 (pos 0 -ℤ to_z w64 k))) x y z).term) in
      let Q : ℤ → Type 0 = λ z. IsTrue (is_within (multiple_row (pos 1) z x y rest).term) in
      subst P (sym rest_passed) (subst Q (sym negated_passed) (multiple_less_within k x y rest low small))
