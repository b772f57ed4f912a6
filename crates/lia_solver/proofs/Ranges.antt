-- Elements of lists, the ranges of columns, and columns that ascend.
use Rattle.std.proofs.Common.{inl, inr, ℕ, ◌≤◌, ◌+◌, nat_le, List, [], ◌∷◌, ℤ, pos, negsuc, arith, refl, FitsSigned}
use Rattle.std.specs.Prelude.{IsTrue, All, ◌≤ℤ◌}
use Rattle.std.specs.Int.{w64}
use Rattle.std.proofs.lemmas.Int.{ints}
use Rattle.std.proofs.lemmas.List.Elements.{All-nil, All-cons, All-contains}
use Rattle.linear_formula.specs.LinearSum.{LinearSum, is_ascending_from}
use Rattle.linear_formula.proofs.Limits.{both, both_in, le_so, so_le}
use Rattle.shadow_elim.specs.Points.{least_value, greatest_value}
use Rattle.shadow_elim.proofs.Exact.{HasRange as IsRanged}
use Rattle.shadow_elim.proofs.Members.{Among, contains-among, among-contains}
use Rattle.lia_solver.specs.steps.Solved.{HasRange}

-- Std's word

pub all-at : {X : Type 0} (P : X → Type 0) (xs : List X) → All P xs → (t : X) → Among t xs → P t
all-at P xs h t k = All-contains P xs t h (among-contains xs t k)

pub all-from : {X : Type 0} (P : X → Type 0) (xs : List X) → ((t : X) → Among t xs → P t) → All P xs
all-from P [] h = All-nil P
all-from P (x ∷ xs) h = All-cons P x xs (h x (inl refl)) (all-from P xs (λ t k. h t (inr k)))

-- Ranges

pub ranged-from : (rows : List LinearSum) (x : ℕ) → HasRange rows x → IsRanged x rows
ranged-from rows x h = record {
  upper = (h.0.0, contains-among rows h.0.0 h.0.1, record { parts = h.0.2; constant = h.0.3 });
  lower = (h.1.0, contains-among rows h.1.0 h.1.1, record { parts = h.1.2; constant = h.1.3 });
}

pub range-from : (rows : List LinearSum) (x : ℕ) → IsRanged x rows → HasRange rows x
range-from rows x h = (
  (h.upper.0, among-contains rows h.upper.0 h.upper.1, h.upper.2.parts, h.upper.2.constant),
  (h.lower.0, among-contains rows h.lower.0 h.lower.1, h.lower.2.parts, h.lower.2.constant),
)

-- Columns

pub ascending-lower : (low least : ℕ) (values : List (ℕ × ℤ)) → least ≤ low → IsTrue (is_ascending_from low values) →
    IsTrue (is_ascending_from least values)
ascending-lower low least [] h k = k
ascending-lower low least (p ∷ ps) h k =
    let b = both (nat_le low p.0) (is_ascending_from (p.0 + 1) ps) k in
    both_in (nat_le least p.0) (is_ascending_from (p.0 + 1) ps) (so_le least p.0 (omega (arith, h, le_so low p.0 b.0))) b.1

pub fits-between : (z : ℤ) → least_value ≤ℤ z → z ≤ℤ greatest_value → FitsSigned w64 z
fits-between (pos n) h k = record { sfits = omega (arith, ints, k) }
fits-between (negsuc n) h k = record { sfits = omega (arith, ints, h) }
