-- The slots of the globals: how many there are, where they end, and that each stands there once.
use Rattle.std.proofs.Common.{◌≡◌, ℕ, zero, suc, ◌+◌, ◌<◌, ◌≤◌, nat_lt, ◌==◌, false, not, ◌∷◌, length, IsTrue, ◌⊎◌, inl, inr, refl, ap, arith}
use Rattle.std.specs.List.{list_all, list_any}
use Rattle.std.proofs.lemmas.Bool.{lt-ltb, ne_eqb}
use Rattle.linear_formula.proofs.Limits.{both_in}
use Rattle.flow_graph.specs.WellFormed.{are_distinct}
use Rattle.flow_build.specs.steps.Layouts.{slots_from}
use Rattle.flow_build.proofs.FormCalls.{neither}

pub slots_count : (x n : ℕ) → length (slots_from x n) ≡ n
slots_count x zero = refl
slots_count x (suc n) = ap suc (slots_count (suc x) n)

-- with the slot of a result in front
pub results_count : (t x n : ℕ) → length (t ∷ slots_from x n) ≡ 1 + n
results_count t x n = let many = slots_count x n in omega (arith, many)

pub slots_below : (slots x n : ℕ) → x + n ≤ slots → IsTrue (list_all (λ y. nat_lt y slots) (slots_from x n))
slots_below slots x zero h = refl
slots_below slots x (suc n) h =
    both_in (nat_lt x slots) (list_all (λ y. nat_lt y slots) (slots_from (suc x) n)) (lt-ltb x slots (omega arith))
    (slots_below slots (suc x) n (omega arith))

-- A slot before or after them isn't one of them.
apart_from : (z x n : ℕ) → (z < x) ⊎ (x + n ≤ z) → list_any (λ y. y == z) (slots_from x n) ≡ false
apart_from z x zero h = refl
apart_from z x (suc n) h =
    neither (x == z) (list_any (λ y. y == z) (slots_from (suc x) n)) (ne_eqb x z (λ q. apart h q)) (apart_from z (suc x) n (on h))
  where
    apart : (z < x) ⊎ (x + suc n ≤ z) → x ≡ z → ⊥
    apart (inl l) q = omega (arith, l, q)
    apart (inr l) q = omega (arith, l, q)

    on : (z < x) ⊎ (x + suc n ≤ z) → (z < suc x) ⊎ (suc x + n ≤ z)
    on (inl l) = inl (omega (arith, l))
    on (inr l) = inr (omega (arith, l))

each_once : (x n : ℕ) → IsTrue (are_distinct (slots_from x n))
each_once x zero = refl
each_once x (suc n) =
    both_in (not (list_any (λ y. y == x) (slots_from (suc x) n))) (are_distinct (slots_from (suc x) n))
    (ap not (apart_from x (suc x) n (inl (omega arith)))) (each_once (suc x) n)

-- with a slot after them in front
pub distinct_behind : (t x n : ℕ) → x + n ≤ t → IsTrue (are_distinct (t ∷ slots_from x n))
distinct_behind t x n h =
    both_in (not (list_any (λ y. y == t) (slots_from x n))) (are_distinct (slots_from x n)) (ap not (apart_from t x n (inr h)))
    (each_once x n)
