-- The row of a pair in the code's words.
use Rattle.std.proofs.Common.{◌≡◌, ◌≢◌, ℕ, suc, zero, ◌<◌, ◌≤◌, ◌^◌, Bool, true, false, List, [], ◌∷◌, ℤ, pos, negsuc, to_z, of_z, to_z-of_z, nat_lt, arith, refl, sym, ap, ◌∙◌, subst}
use Rattle.std.specs.Prelude.{unsigned_abs, IsTrue, int_lt, if◌then◌else◌}
use Rattle.std.specs.Int.{w64, w128}
use Rattle.std.proofs.lemmas.Int.{ints, fits_signed_from_abs}
use Rattle.linear_formula.specs.LinearSum.{LinearSum, is_term, coefficient}
use Rattle.linear_formula.specs.steps.Order.{InOrder, AllWithin}
use Rattle.linear_formula.specs.Results.{combination}
use Rattle.linear_formula.proofs.Limits.{IsTerm-from_test}
use Rattle.linear_formula.proofs.Merging.{cast_same}
use Rattle.shadow_elim.specs.declared.row.Row.{Row}
use Rattle.shadow_elim.specs.declared.pairing.Candidate.{Candidate}
use Rattle.shadow_elim.specs.declared.pairing.Origin.TheVariants.{Made}
use Rattle.shadow_elim.specs.Division.{common_divisor, parts_divisor, tightened, row_divisor}
use Rattle.shadow_elim.specs.Elimination.{is_upper, size_of, upper_multiple, lower_multiple, pair_sum}
use Rattle.shadow_elim.specs.steps.Making.{made}
use Rattle.shadow_elim.proofs.Divisors.{common_divisor-small, common_divisor-positive}

above-size : (z : ℤ) → IsTrue (int_lt (pos 0) z) → 0 < unsigned_abs z
above-size (pos zero) h = cc
above-size (pos (suc n)) h = omega arith
above-size (negsuc n) h = omega arith

pub upper-positive : (x : ℕ) (t : LinearSum) → IsTrue (is_upper x t) → 0 < size_of x t
upper-positive x t h = above-size (coefficient x t) h

apart-size : (z : ℤ) → z ≢ pos 0 → 0 < unsigned_abs z
apart-size (pos zero) h = absurd (h refl)
apart-size (pos (suc n)) h = omega arith
apart-size (negsuc n) h = omega arith

parts_divisor-small : (low : ℕ) (ps : List (ℕ × ℤ)) → InOrder low ps → AllWithin ps → parts_divisor ps ≤ 2 ^ 40
parts_divisor-small low [] o w = omega arith
parts_divisor-small low (p ∷ ps) o w =
    omega (arith, w.0, common_divisor-small (unsigned_abs p.1) (parts_divisor ps) (apart-size p.1 o.2))

pub row_divisor-small : (t : LinearSum) → IsTrue (is_term t) → row_divisor t ≤ 2 ^ 40
row_divisor-small t h = by_test (nat_lt 1 (parts_divisor t.parts)) where
  by_test : (b : Bool) → (if b then parts_divisor t.parts else 1) ≤ 2 ^ 40
  by_test true =
      let i = IsTerm-from_test t h in
      parts_divisor-small 0 t.parts i.order i.within.coefficients
  by_test false = omega arith

pub cast_multiple : (z : ℤ) → unsigned_abs z ≤ 2 ^ 40 → to_z w64 (of_z w64 z) ≡ z
cast_multiple z h = to_z-of_z (fits_signed_from_abs w64 z (omega (arith, h)))

pub cast_divisor : (d : ℕ) → d ≤ 2 ^ 40 → to_z w64 d ≡ pos d
cast_divisor d h = omega (arith, ints, h)

pub made_is : (x : ℕ) (u l : Row) (m n d : ℤ) (t : LinearSum) → m ≡ pos (upper_multiple (size_of x u.term) (size_of x l.term)) →
    n ≡ pos (lower_multiple (size_of x u.term) (size_of x l.term)) → t ≡ tightened (pair_sum x (u.term, l.term)) →
    d ≡ pos (row_divisor (pair_sum x (u.term, l.term))) →
    let c : Candidate =
    record { term = t; origin = Made (record { upper = u.number; upper_multiple = m; lower = l.number; lower_multiple = n; divide = d }) }
    in
    c ≡ made x u l
made_is x u l m n d t e f g h = cc

-- a size as the code measures it
pub size_is : (x : ℕ) (t : LinearSum) (z : ℤ) (a : ℕ) → z ≡ coefficient x t → unsigned_abs z ≤ 2 ^ 40 →
    a ≡ unsigned_abs (to_z w128 (of_z w128 z)) → a ≡ size_of x t
size_is x t z a e h f = f ∙ ap unsigned_abs (cast_same z (omega (arith, h)) ∙ e)

pub divisor-positive : (x : ℕ) (u : LinearSum) (a b d : ℕ) → IsTrue (is_upper x u) → a ≡ size_of x u → d ≡ common_divisor a b → 0 < d
divisor-positive x u a b d h e f =
    let p : 0 < a = subst (λ (n : ℕ). 0 < n) (sym e) (upper-positive x u h) in
    omega (arith, f, common_divisor-positive a b p)

-- a sum whose multipliers were cast
pub sum_is : (x : ℕ) (u l : LinearSum) (m n m' n' : ℤ) (s : LinearSum) → m ≡ pos (upper_multiple (size_of x u) (size_of x l)) →
    n ≡ pos (lower_multiple (size_of x u) (size_of x l)) → m' ≡ m → n' ≡ n → s ≡ combination ((m', u) ∷ (n', l) ∷ []) (pos 0) →
    s ≡ pair_sum x (u, l)
sum_is x u l m n m' n' s e f g h k =
    k ∙ ap (λ y. combination ((y, u) ∷ (n', l) ∷ []) (pos 0)) (g ∙ e)
    ∙ ap (λ z. combination ((pos (upper_multiple (size_of x u) (size_of x l)), u) ∷ (z, l) ∷ []) (pos 0)) (h ∙ f)
