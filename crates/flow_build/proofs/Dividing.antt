-- The rows of a quotient by a constant.
use Rattle.std.proofs.Common.{◌≡◌, ℕ, zero, suc, ◌/◌, ◌%◌, ◌≤◌, true, [], ◌∷◌, ℤ, pos, negsuc, ◌+ℤ◌, ◌-ℤ◌, ◌*ℤ◌, neg_ℤ, ◌≤ℤ◌, ◌<ℤ◌, int_div, int_rem, nat_abs, IsTrue, refl, sym, ap, ◌∙◌, subst, arith}
use Rattle.std.proofs.lemmas.Int.{ints, quot-rem}
use Rattle.std.proofs.Math.IntN.{*ℤ_comm}
use native.Mathlib.Nat.{div-add-mod'}
use Rattle.std.proofs.Math.Nat.{div-le_self}
use Rattle.c_tree.specs.Meaning.{State, with_slot, is_value, has_quotient}
use Rattle.c_tree.proofs.Dividing.{one_above, rows_above as above_met, one_below, rows_below as below_met}
use Rattle.linear_formula.specs.LinearSum.{value_of}
use Rattle.linear_formula.specs.Formula.{HoldsAll}
use Rattle.linear_formula.specs.Replaced.{column_sum}
use Rattle.linear_formula.proofs.Values.{value-combination}
use Rattle.linear_formula.proofs.Replacing.{value-column}
use Rattle.std.specs.Prelude.{int_le}
use Rattle.flow_graph.proofs.Numbers.{is_true, value_bounds, value_between}
use Rattle.flow_graph.specs.Runs.{lin_value}
use Rattle.flow_build.specs.steps.Operands.{multiple_row, rows_above, rows_below, rest_lin}
use Rattle.flow_build.proofs.Slots.{slot_there, slot_other}

-- the value of a row
row_is : (v : State) (c d : ℤ) (x y : ℕ) (k : ℤ) → value_of v (multiple_row c d x y k).term ≡ ((c *ℤ v x) +ℤ ((d *ℤ v y) +ℤ k))
row_is v c d x y k =
    value-combination v ((c, column_sum x) ∷ (d, column_sum y) ∷ []) k
    ∙ ap (λ z. (c *ℤ z) +ℤ ((d *ℤ value_of v (column_sum y)) +ℤ k)) (value-column v x)
    ∙ ap (λ z. (c *ℤ v x) +ℤ ((d *ℤ z) +ℤ k)) (value-column v y)

-- with these values in its two slots
row_at : (v : State) (c d : ℤ) (x y : ℕ) (k p q : ℤ) → v x ≡ p → v y ≡ q → value_of v (multiple_row c d x y k).term
    ≡ ((c *ℤ p) +ℤ ((d *ℤ q) +ℤ k))
row_at v c d x y k p q e f =
    row_is v c d x y k ∙ ap (λ z. (c *ℤ z) +ℤ ((d *ℤ v y) +ℤ k)) e ∙ ap (λ z. (c *ℤ p) +ℤ ((d *ℤ z) +ℤ k)) f

module _ (b a t : ℕ) (apart : a ≡ t → ⊥) (σ : State) (q : ℤ) where
  abbrev after : State
  after = with_slot σ t q

  new_at : after t ≡ q
  new_at = slot_there σ t q

  old_at : (x : ℤ) → σ a ≡ x → after a ≡ x
  old_at x e = slot_other σ t a q apart ∙ e

  module _ (x : ℤ) (at : σ a ≡ x) where
    one_at : (k : ℤ) → value_of after (multiple_row (pos (suc b)) (negsuc 0) t a k).term ≡ ((pos (suc b) *ℤ q) +ℤ ((negsuc 0 *ℤ x) +ℤ k))
    one_at k = row_at after (pos (suc b)) (negsuc 0) t a k q x new_at (old_at x at)

    two_at : (k : ℤ) → value_of after (multiple_row (pos 1) (negsuc b) a t k).term ≡ ((pos 1 *ℤ x) +ℤ ((negsuc b *ℤ q) +ℤ k))
    two_at k = row_at after (pos 1) (negsuc b) a t k x q (old_at x at) new_at

  pub above_holds : (n : ℕ) → σ a ≡ pos n → q ≡ int_div (pos n) (pos (suc b)) → HoldsAll after (rows_above (suc b) a t)
  above_holds n at e =
      let m = above_met b n in
      let low : (pos (suc b) *ℤ q) ≤ℤ pos n = subst (λ z. (pos (suc b) *ℤ z) ≤ℤ pos n) (sym e) m.0 in
      let high : pos n <ℤ ((pos (suc b) *ℤ q) +ℤ pos (suc b)) = subst (λ z. pos n <ℤ ((pos (suc b) *ℤ z) +ℤ pos (suc b))) (sym e) m.1 in
      let one = one_at (pos n) at (pos 0) in
      let two = two_at (pos n) at (pos 1 -ℤ pos (suc b)) in
      (omega (arith, ints, one, low), (omega (arith, ints, two, high), tt))

  pub above_tells : (n : ℕ) → σ a ≡ pos n → HoldsAll after (rows_above (suc b) a t) → q ≡ int_div (pos n) (pos (suc b))
  above_tells n at h =
      let one = one_at (pos n) at (pos 0) in
      let two = two_at (pos n) at (pos 1 -ℤ pos (suc b)) in
      let low = h.0 in
      let high = h.1.0 in
      one_above b n q (omega (arith, ints, one, low)) (omega (arith, ints, two, high))

  pub below_holds : (n : ℕ) → σ a ≡ negsuc n → q ≡ int_div (negsuc n) (pos (suc b)) → HoldsAll after (rows_below (suc b) a t)
  below_holds n at e =
      let m = below_met b n in
      let low : negsuc n ≤ℤ (pos (suc b) *ℤ q) = subst (λ z. negsuc n ≤ℤ (pos (suc b) *ℤ z)) (sym e) m.0 in
      let high : (pos (suc b) *ℤ q) <ℤ (negsuc n +ℤ pos (suc b)) = subst (λ z. (pos (suc b) *ℤ z) <ℤ (negsuc n +ℤ pos (suc b))) (sym e) m.1
      in
      let one = one_at (negsuc n) at (pos 1 -ℤ pos (suc b)) in
      let two = two_at (negsuc n) at (pos 0) in
      (omega (arith, ints, two, low), (omega (arith, ints, one, high), tt))

  pub below_tells : (n : ℕ) → σ a ≡ negsuc n → HoldsAll after (rows_below (suc b) a t) → q ≡ int_div (negsuc n) (pos (suc b))
  below_tells n at h =
      let one = one_at (negsuc n) at (pos 1 -ℤ pos (suc b)) in
      let two = two_at (negsuc n) at (pos 0) in
      let low = h.0 in
      let high = h.1.0 in
      one_below b n q (omega (arith, ints, two, low)) (omega (arith, ints, one, high))

-- the quotient by a magnitude is a value
neg_low : (m : ℕ) → (pos 0 -ℤ pos m) ≡ neg_ℤ (pos m)
neg_low zero = refl
neg_low (suc m) = omega (arith, ints)

pub quotient_value : (x : ℤ) (b : ℕ) → IsTrue (is_value x) → IsTrue (is_value (int_div x (pos (suc b))))
quotient_value (pos n) b h =
    let s = value_bounds (pos n) h in
    let less : n / suc b ≤ n = div-le_self n (suc b) in
    value_between (pos (n / suc b)) (omega (arith, ints)) (omega (arith, ints, s.1, less))
quotient_value (negsuc n) b h =
    let s = value_bounds (negsuc n) h in
    let less : suc n / suc b ≤ suc n = div-le_self (suc n) (suc b) in
    let e = neg_low (suc n / suc b) in
    value_between (neg_ℤ (pos (suc n / suc b))) (omega (arith, ints, s.0, less, e)) (omega (arith, ints, e))

-- by a positive divisor there is a quotient
pub has_positive : (x : ℤ) (b : ℕ) → IsTrue (is_value x) → has_quotient x (pos (suc b)) ≡ true
has_positive x b h = quotient_value x b h

-- what the rest is
pub rest_is : (σ : State) (c : ℤ) (a t : ℕ) (x q : ℤ) → σ a ≡ x → σ t ≡ q → lin_value σ (rest_lin c a t) ≡ (x -ℤ (c *ℤ q))
rest_is σ c a t x q e f =
    ap (λ z. ((pos 1 *ℤ z) +ℤ ((neg_ℤ c *ℤ σ t) +ℤ pos 0)) +ℤ pos 0) e
    ∙ ap (λ z. ((pos 1 *ℤ x) +ℤ ((neg_ℤ c *ℤ z) +ℤ pos 0)) +ℤ pos 0) f ∙ last c
  where
    last : (d : ℤ) → (((pos 1 *ℤ x) +ℤ ((neg_ℤ d *ℤ q) +ℤ pos 0)) +ℤ pos 0) ≡ (x -ℤ (d *ℤ q))
    last (pos zero) = omega (arith, ints)
    last (pos (suc k)) = omega (arith, ints)
    last (negsuc k) = omega (arith, ints)

-- the remainder of a value is a value
remainder_value : (x d : ℤ) → IsTrue (is_value x) → IsTrue (is_value (int_rem x d))
remainder_value (pos n) d h =
    let s = value_bounds (pos n) h in
    let split = div-add-mod' n (nat_abs d) in
    let less : n % nat_abs d ≤ n = omega (arith, split) in
    value_between (pos (n % nat_abs d)) (omega (arith, ints)) (omega (arith, ints, s.1, less))
remainder_value (negsuc n) d h =
    let s = value_bounds (negsuc n) h in
    let split = div-add-mod' (suc n) (nat_abs d) in
    let less : suc n % nat_abs d ≤ suc n = omega (arith, split) in
    let e = neg_low (suc n % nat_abs d) in
    value_between (neg_ℤ (pos (suc n % nat_abs d))) (omega (arith, ints, s.0, less, e)) (omega (arith, ints, e))

pub rest_value : (x c : ℤ) → IsTrue (is_value x) → IsTrue (is_value (x -ℤ (c *ℤ int_div x c)))
rest_value x c h =
    let all = quot-rem x c in
    let turned : (c *ℤ int_div x c) ≡ (int_div x c *ℤ c) = *ℤ_comm c (int_div x c) in
    let same : (x -ℤ (c *ℤ int_div x c)) ≡ int_rem x c = ap (λ z. x -ℤ z) turned ∙ last (int_div x c *ℤ c) (int_rem x c) all in
    subst (λ z. IsTrue (is_value z)) (sym same) (remainder_value x c h)
  where
    last : (p r : ℤ) → (p +ℤ r) ≡ x → (x -ℤ p) ≡ r
    last p r e = omega (arith, ints, e)

pub from_zero : (n : ℕ) → int_le (pos 0) (pos n) ≡ true
from_zero n = let h : pos 0 ≤ℤ pos n = omega (arith, ints) in is_true (int_le (pos 0) (pos n)) h.le
