-- A sum, part by part.
use Rattle.std.proofs.Common.{◌≡◌, ℕ, ◌<◌, ◌≤◌, ◌+◌, ◌*◌, ◌^◌, List, length, drop, ℤ, pos, ◌+ℤ◌, ◌*ℤ◌, to_z, of_z, FitsSigned, arith, ◌∙◌, ap, sym, subst}
use Rattle.std.specs.Int.{w64, w128}
use Rattle.std.specs.Prelude.{unsigned_abs}
use Rattle.std.proofs.lemmas.Int.{ints, unsigned_abs-mul}
use Rattle.std.proofs.lemmas.List.{drop_all}
use Rattle.std.proofs.Math.Nat.{mul-le-mul}
use Rattle.linear_formula.specs.LinearSum.{value_of_parts}
use Rattle.linear_formula.specs.steps.Order.{AllWithin}
use Rattle.linear_formula.proofs.Merging.{at, drop_at}
use Rattle.linear_formula.proofs.Finishing.{AllWithin-at, cast_wide, fits_wide}

pub record Evaluated (v : ℕ → ℤ) (constant : ℤ) (ps : List (ℕ × ℤ)) (sum : ℤ) (k : ℕ) : Type 0 where
  pub value : sum +ℤ value_of_parts v (drop k ps) ≡ value_of_parts v ps +ℤ constant
  pub limit : unsigned_abs sum ≤ 2 ^ 84 + k * 2 ^ 103

pub evaluated-begins : (v : ℕ → ℤ) (c : ℤ) (ps : List (ℕ × ℤ)) → unsigned_abs c ≤ 2 ^ 84 → Evaluated v c ps c 0
evaluated-begins v c ps h = record { value = omega (arith, ints); limit = omega (arith, h) }

product_small : (a b : ℤ) → unsigned_abs a ≤ 2 ^ 40 → FitsSigned w64 b → unsigned_abs (a *ℤ b) ≤ 2 ^ 103
product_small a b h f =
    let k : unsigned_abs b ≤ 2 ^ 63 = omega (arith, ints, f) in
    let e : unsigned_abs a * unsigned_abs b ≤ 2 ^ 40 * 2 ^ 63 = mul-le-mul h k in
    omega (arith, unsigned_abs-mul a b, e)

-- the product and the sum as the code computes them
abbrev pub term_of : ℤ → ℤ → ℤ
term_of a n = to_z w128 (of_z w128 a) *ℤ to_z w128 (of_z w128 n)

term_is : (a n b : ℤ) → unsigned_abs a ≤ 2 ^ 40 → FitsSigned w64 b → n ≡ b → term_of a n ≡ a *ℤ b
term_is a n b h f e =
    let c : to_z w128 (of_z w128 n) ≡ b = ap (λ z. to_z w128 (of_z w128 z)) e ∙ omega (arith, ints, f) in
    ap (λ z. z *ℤ to_z w128 (of_z w128 n)) (cast_wide a (omega (arith, h))) ∙ ap (λ z. a *ℤ z) c

pub fits_term : (a n b : ℤ) → unsigned_abs a ≤ 2 ^ 40 → FitsSigned w64 b → n ≡ b → FitsSigned w128 (term_of a n)
fits_term a n b h f e =
    subst (λ z. FitsSigned w128 z) (sym (term_is a n b h f e)) (fits_wide (a *ℤ b) (omega (arith, product_small a b h f)))

pub sum_limit : (a b : ℤ) → unsigned_abs (a +ℤ b) ≤ unsigned_abs a + unsigned_abs b
sum_limit a b = omega (arith, ints)

-- one part more
pub record Step (v : ℕ → ℤ) (c : ℤ) (ps : List (ℕ × ℤ)) (sum a n : ℤ) (k : ℕ) : Type 0 where
  pub fits : FitsSigned w128 (sum +ℤ to_z w128 (of_z w128 (term_of a n)))
  pub next : Evaluated v c ps (to_z w128 (of_z w128 (sum +ℤ to_z w128 (of_z w128 (term_of a n))))) (k + 1)

pub evaluated-steps : (v : ℕ → ℤ) (c : ℤ) (ps : List (ℕ × ℤ)) (sum n b : ℤ) (k : ℕ) → Evaluated v c ps sum k → k < length ps →
    length ps ≤ 1024 → AllWithin ps → FitsSigned w64 b → n ≡ b → b ≡ v (at ps k).0 → Step v c ps sum (at ps k).1 n k
evaluated-steps v c ps sum n b k s h count w f e d =
    let a = (at ps k).1 in
    let la : unsigned_abs a ≤ 2 ^ 40 = AllWithin-at ps k h w in
    let lp = product_small a b la f in
    let ls : unsigned_abs sum ≤ 2 ^ 114 = omega (arith, s.limit, h, count) in
    let t : to_z w128 (of_z w128 (term_of a n)) ≡ a *ℤ b = ap (λ z. to_z w128 (of_z w128 z)) (term_is a n b la f e) ∙ cast_wide (a *ℤ b)
    (omega (arith, lp)) in
    let u : sum +ℤ to_z w128 (of_z w128 (term_of a n)) ≡ sum +ℤ (a *ℤ b) = ap (λ z. sum +ℤ z) t in
    let small : unsigned_abs (sum +ℤ (a *ℤ b)) ≤ 2 ^ 126 = omega (arith, sum_limit sum (a *ℤ b), ls, lp) in
    let whole : to_z w128 (of_z w128 (sum +ℤ to_z w128 (of_z w128 (term_of a n)))) ≡ sum +ℤ (a *ℤ b) = ap (λ z. to_z w128 (of_z w128 z)) u
    ∙ cast_wide (sum +ℤ (a *ℤ b)) small in
    let turn : value_of_parts v (drop k ps) ≡ (a *ℤ b) +ℤ value_of_parts v (drop (k + 1) ps) = ap (value_of_parts v) (drop_at ps k h)
    ∙ ap (λ z. (a *ℤ z) +ℤ value_of_parts v (drop (k + 1) ps)) (sym d) in
    record {
      fits = subst (λ z. FitsSigned w128 z) (sym u) (fits_wide (sum +ℤ (a *ℤ b)) small);
      next = subst (λ z. Evaluated v c ps z (k + 1)) (sym whole)
          (record { value = omega (arith, ints, s.value, turn); limit = omega (arith, sum_limit sum (a *ℤ b), s.limit, lp) });
    }

pub evaluated-ends : (v : ℕ → ℤ) (c : ℤ) (ps : List (ℕ × ℤ)) (sum : ℤ) (k : ℕ) → Evaluated v c ps sum k → length ps ≤ k →
    sum ≡ value_of_parts v ps +ℤ c
evaluated-ends v c ps sum k s h =
    let none : value_of_parts v (drop k ps) ≡ pos 0 = ap (value_of_parts v) (drop_all k ps h) in
    omega (arith, ints, s.value, none)
