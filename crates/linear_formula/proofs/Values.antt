-- The values of the results.
use Rattle.std.proofs.Common.{◌≡◌, ℕ, Bool, true, false, suc, zero, List, [], ◌∷◌, ℤ, pos, negsuc, ◌+ℤ◌, ◌*ℤ◌, ◌-ℤ◌, ◌==◌, nat_lt, ◌<◌, ◌+◌, arith, refl, ◌∙◌, ap}
use Rattle.std.specs.Prelude.{if◌then◌else◌}
use Rattle.std.proofs.lemmas.Int.{ints}
use borrow.Author.Tests.{eqb-true, ne_eqb}
use Rattle.linear_formula.specs.steps.Order.{InOrder}
use Rattle.linear_formula.specs.LinearSum.{LinearSum, value_of, value_of_parts, coefficient, listed_at}
use Rattle.linear_formula.specs.Results.{put_part, with_part, plus_parts, plus_multiple, combination, combination_value, without_part, without_column, substituted, negated, renamed_column, renamed_parts, renamed_by, renamed, renamed_valuation, valuation_with}
use Rattle.linear_formula.proofs.Ring.{mul-add, add-mul, zero-mul, mul-step}

-- a choice by two tests, case by case
pub chosen : {X : Type 0} (P : X → Type 0) (b c : Bool) (x y z : X) → (b ≡ true → P x) → (b ≡ false → c ≡ true → P y) →
    (b ≡ false → c ≡ false → P z) → P (if b then x else (if c then y else z))
chosen P true c x y z f g h = f refl
chosen P false true x y z f g h = g refl refl
chosen P false false x y z f g h = h refl refl

pub chosen_of_two : {X : Type 0} (P : X → Type 0) (b : Bool) (x y : X) → (b ≡ true → P x) → (b ≡ false → P y) → P (if b then x else y)
chosen_of_two P true x y f g = f refl
chosen_of_two P false x y f g = g refl

pub value-put : (v : ℕ → ℤ) (x : ℕ) (a : ℤ) (ps : List (ℕ × ℤ)) → value_of_parts v (put_part x a ps) ≡ (a *ℤ v x) +ℤ value_of_parts v ps
value-put v x (pos zero) ps = omega (arith, ints, zero-mul (v x))
value-put v x (pos (suc n)) ps = refl
value-put v x (negsuc n) ps = refl

-- the value of a sum with one more multiple of a column
pub value-with : (v : ℕ → ℤ) (x : ℕ) (a : ℤ) (ps : List (ℕ × ℤ)) → value_of_parts v (with_part x a ps) ≡ (a *ℤ v x) +ℤ value_of_parts v ps
value-with v x a [] = value-put v x a []
value-with v x a (p ∷ ps) =
    chosen (λ r. value_of_parts v r ≡ (a *ℤ v x) +ℤ value_of_parts v (p ∷ ps)) (nat_lt x p.0) (x == p.0) (put_part x a (p ∷ ps))
    (put_part x (a +ℤ p.1) ps) (p ∷ with_part x a ps) (λ _. value-put v x a (p ∷ ps)) (λ _ e. value-put v x (a +ℤ p.1) ps
    ∙ met (eqb-true x p.0 e)) (λ _ _. omega (arith, ints, value-with v x a ps)) where
      met : x ≡ p.0 → ((a +ℤ p.1) *ℤ v x) +ℤ value_of_parts v ps ≡ (a *ℤ v x) +ℤ ((p.1 *ℤ v p.0) +ℤ value_of_parts v ps)
      met e = omega (arith, ints, add-mul a p.1 (v x), ap (λ y. p.1 *ℤ v y) e)

pub value-plus_parts : (v : ℕ → ℤ) (m : ℤ) (ps qs : List (ℕ × ℤ)) → value_of_parts v (plus_parts m ps qs) ≡ (m *ℤ value_of_parts v ps) +ℤ
    value_of_parts v qs
value-plus_parts v m [] qs = omega (arith, ints)
value-plus_parts v m (p ∷ ps) qs =
    omega (
      arith,
      ints,
      value-with v p.0 (m *ℤ p.1) (plus_parts m ps qs),
      value-plus_parts v m ps qs,
      mul-step m p.1 (v p.0) (value_of_parts v ps),
    )

-- the value of a multiple and a sum
pub value-plus_multiple : (v : ℕ → ℤ) (m : ℤ) (t u : LinearSum) → value_of v (plus_multiple m t u) ≡ (m *ℤ value_of v t) +ℤ value_of v u
value-plus_multiple v m t u =
    omega (arith, ints, value-plus_parts v m t.parts u.parts, mul-add m (value_of_parts v t.parts) t.constant)

-- the value of a combination
pub value-combination : (v : ℕ → ℤ) (ss : List (ℤ × LinearSum)) (c : ℤ) → value_of v (combination ss c) ≡ combination_value v ss c
value-combination v [] c = omega (arith, ints)
value-combination v (s ∷ ss) c =
    value-plus_multiple v s.0 s.1 (combination ss c) ∙ ap (λ z. (s.0 *ℤ value_of v s.1) +ℤ z) (value-combination v ss c)

pub combined-value : (ss : List (ℤ × LinearSum)) (c : ℤ) (t : LinearSum) → t ≡ combination ss c → (v : ℕ → ℤ) →
    value_of v t ≡ combination_value v ss c
combined-value ss c t e v = ap (value_of v) e ∙ value-combination v ss c

-- the value of the negated sum is 1 less the value
pub value-negated : (v : ℕ → ℤ) (t : LinearSum) → value_of v (negated t) ≡ pos 1 -ℤ value_of v t
value-negated v t = value-combination v ((negsuc 0, t) ∷ []) (pos 1) ∙ omega (arith, ints)

pub listed-none : (y low : ℕ) (ps : List (ℕ × ℤ)) → y < low → InOrder low ps → listed_at y ps ≡ pos 0
listed-none y low [] h o = refl
listed-none y low (p ∷ ps) h o =
    let apart : (y == p.0) ≡ false = ne_eqb y p.0 (λ e. omega (arith, o.0, e)) in
    rw apart (listed-none y (p.0 + 1) ps (omega (arith, o.0)) o.3)

-- the value with another value z at the column
pub value-valuation_with : (v : ℕ → ℤ) (x : ℕ) (z : ℤ) (low : ℕ) (ps : List (ℕ × ℤ)) → InOrder low ps →
    value_of_parts (valuation_with v x z)
    ps ≡ (listed_at x ps *ℤ z) +ℤ value_of_parts v (without_part x ps)
value-valuation_with v x z low [] o = omega (arith, ints, zero-mul z)
value-valuation_with v x z low (p ∷ ps) o =
    by_test (x == p.0) refl (value-valuation_with v x z (p.0 + 1) ps o.3) where
      by_test : (b : Bool) → (x == p.0) ≡ b → value_of_parts (valuation_with v x z) ps ≡ (listed_at x ps *ℤ z) +ℤ value_of_parts v
          (without_part x ps) → (p.1 *ℤ (if b then z else v p.0)) +ℤ value_of_parts (valuation_with v x z) ps
          ≡ ((if b then p.1 else listed_at x ps) *ℤ z) +ℤ value_of_parts v (if b then without_part x ps else (p ∷ without_part x ps))
      by_test true e h =
          let none : listed_at x ps ≡ pos 0 = listed-none x (p.0 + 1) ps (omega (arith, eqb-true x p.0 e)) o.3 in
          omega (arith, ints, h, ap (λ y. y *ℤ z) none, zero-mul z)
      by_test false e h = omega (arith, ints, h)

-- the value of a substitution reads the value of `by` for the column
pub value-substituted : (v : ℕ → ℤ) (x : ℕ) (by t : LinearSum) (low : ℕ) → InOrder low t.parts → value_of v (substituted x by t)
    ≡ value_of (valuation_with v x (value_of v by)) t
value-substituted v x by t low o =
    let e = value-plus_multiple v (coefficient x t) by (without_column x t) in
    let d = value-valuation_with v x (value_of v by) low t.parts o in
    omega (arith, ints, e, d)

pub value-renamed_parts : (v : ℕ → ℤ) (f : ℕ → ℕ) (ps : List (ℕ × ℤ)) → value_of_parts v (renamed_parts f ps) ≡ value_of_parts
    (λ x. v (f x))
    ps
value-renamed_parts v f [] = refl
value-renamed_parts v f (p ∷ ps) =
    value-with v (f p.0) p.1 (renamed_parts f ps) ∙ ap (λ s. (p.1 *ℤ v (f p.0)) +ℤ s) (value-renamed_parts v f ps)

-- the renamed sum reads the new columns
pub value-renamed_by : (v : ℕ → ℤ) (f : ℕ → ℕ) (t : LinearSum) → value_of v (renamed_by f t) ≡ value_of (λ x. v (f x)) t
value-renamed_by v f t = ap (λ s. s +ℤ t.constant) (value-renamed_parts v f t.parts)

pub value-renamed : (v : ℕ → ℤ) (map : List (ℕ × ℕ)) (t : LinearSum) → value_of v (renamed map t) ≡ value_of (renamed_valuation map v) t
value-renamed v map t = value-renamed_by v (renamed_column map) t
