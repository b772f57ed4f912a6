-- Loops over 1 to n: which numbers are left, and what is appended at each.
use Rattle.std.proofs.Common.{◌≡◌, ℕ, ◌+◌, ◌-◌, ◌≤◌, ◌++◌, suc, List, ◌∷◌, ap, ◌∙◌, append_assoc, arith}
use Rattle.std.specs.List.{range_with_len}

-- i to n
abbrev pub left : ℕ → ℕ → List ℕ
left i n = range_with_len i (n + 1 - i)

-- the first of them, and the rest
pub left_step : (i n : ℕ) → i ≤ n → left i n ≡ i ∷ left (i + 1) n
left_step i n h =
    let e : n + 1 - i ≡ suc (n + 1 - (i + 1)) = omega arith in
    ap (range_with_len i) e

-- what is appended is no longer due
pub pushed : (a x r b z : List ℕ) → b ≡ a ++ x → a ++ (x ++ r) ≡ z → b ++ r ≡ z
pushed a x r b z e h = ap (λ t. t ++ r) e ∙ (append_assoc a x r ∙ h)
