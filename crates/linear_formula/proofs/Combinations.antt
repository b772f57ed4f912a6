-- Order, coefficients and swaps of whole results, for the crates above.
use Rattle.std.proofs.Common.{◌≡◌, ℕ, ◌<◌, ◌^◌, List, [], ◌∷◌, ℤ, pos, ◌+ℤ◌, ◌*ℤ◌, arith, refl, ◌∙◌, ap, sym}
use Rattle.std.proofs.lemmas.Int.{ints}
use Rattle.linear_formula.specs.LinearSum.{LinearSum, coefficient}
use Rattle.linear_formula.specs.steps.Order.{InOrder}
use Rattle.linear_formula.specs.Results.{plus_multiple, combination, renamed_parts}
use Rattle.linear_formula.proofs.Order.{InOrder-with, InOrder-plus_parts, listed-plus_parts, same_parts}
use Rattle.linear_formula.proofs.Finishing.{sum_same}

-- the parts of each summand are in order
abbrev pub AllInOrder : List (ℤ × LinearSum) → Type 0
AllInOrder [] = Unit {0}
AllInOrder (s ∷ ss) = InOrder 0 s.1.parts × AllInOrder ss

-- the coefficient of a column in a combination
abbrev pub combined_coefficient : ℕ → List (ℤ × LinearSum) → ℤ
combined_coefficient x [] = pos 0
combined_coefficient x (s ∷ ss) = (s.0 *ℤ coefficient x s.1) +ℤ combined_coefficient x ss

-- a combination is in order and without 0
pub InOrder-combination : (ss : List (ℤ × LinearSum)) (c : ℤ) → AllInOrder ss → InOrder 0 (combination ss c).parts
InOrder-combination [] c o = tt
InOrder-combination (s ∷ ss) c o =
    InOrder-plus_parts 0 s.0 s.1.parts (combination ss c).parts o.0 (InOrder-combination ss c o.1)

pub coefficient-plus_multiple : (x : ℕ) (m : ℤ) (t u : LinearSum) → InOrder 0 t.parts → InOrder 0 u.parts →
    coefficient x (plus_multiple m t u) ≡ (m *ℤ coefficient x t) +ℤ coefficient x u
coefficient-plus_multiple x m t u o r = listed-plus_parts x 0 0 m t.parts u.parts o r

pub coefficient-combination : (x : ℕ) (ss : List (ℤ × LinearSum)) (c : ℤ) → AllInOrder ss → coefficient x (combination ss c)
    ≡ combined_coefficient x ss
coefficient-combination x [] c o = refl
coefficient-combination x (s ∷ ss) c o =
    coefficient-plus_multiple x s.0 s.1 (combination ss c) o.0 (InOrder-combination ss c o.1) ∙ ap (λ z. (s.0 *ℤ coefficient x s.1) +ℤ z)
    (coefficient-combination x ss c o.1)

-- the order of two summands does not matter
pub combination-swapped : (m n : ℤ) (t u : LinearSum) (c : ℤ) → InOrder 0 t.parts → InOrder 0 u.parts → combination ((m, t) ∷ (n, u) ∷ []) c
    ≡ combination ((n, u) ∷ (m, t) ∷ []) c
combination-swapped m n t u c o r =
    let one = (m, t) ∷ (n, u) ∷ [] in
    let other = (n, u) ∷ (m, t) ∷ [] in
    sum_same (combination one c).parts (combination other c).parts (combination one c).constant (combination other c).constant
    (same_parts 0 0 (combination one c).parts (combination other c).parts (InOrder-combination one c (o, (r, tt)))
    (InOrder-combination other c (r, (o, tt))) (λ x. coefficient-combination x one c (o, (r, tt)) ∙ swapped (m *ℤ coefficient x t)
    (n *ℤ coefficient x u) ∙ back x)) (omega (arith, ints)) where
      swapped : (a b : ℤ) → a +ℤ (b +ℤ pos 0) ≡ b +ℤ (a +ℤ pos 0)
      swapped a b = omega (arith, ints)

      back : (x : ℕ) → (n *ℤ coefficient x u) +ℤ ((m *ℤ coefficient x t) +ℤ pos 0) ≡ coefficient x (combination ((n, u) ∷ (m, t) ∷ []) c)
      back x = sym (coefficient-combination x ((n, u) ∷ (m, t) ∷ []) c (r, (o, tt)))

-- renamed parts are in order and without 0
pub InOrder-renamed : (f : ℕ → ℕ) (ps : List (ℕ × ℤ)) → ((x : ℕ) → f x < 2 ^ 32) → InOrder 0 (renamed_parts f ps)
InOrder-renamed f [] h = tt
InOrder-renamed f (p ∷ ps) h =
    InOrder-with 0 (f p.0) p.1 (renamed_parts f ps) (omega arith) (h p.0) (InOrder-renamed f ps h)
