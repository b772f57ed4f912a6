-- Terms of few parts that are read, and sums after others.
use Rattle.std.proofs.Common.{◌≡◌, ℕ, ◌+◌, ◌<◌, length, drop, List, [], ◌∷◌, ◌++◌, Bool, true, false, None, Some, Option, ℤ, pos, ◌+ℤ◌, ◌*ℤ◌, arith, refl, sym, ap, ◌∙◌}
use Rattle.std.specs.Prelude.{IsTrue, if◌then◌else◌}
use Rattle.std.proofs.lemmas.Int.{ints}
use Rattle.std.proofs.lemmas.List.{drop_all}
use Rattle.linear_formula.specs.LinearSum.{LinearSum, is_term, is_within}
use Rattle.linear_formula.specs.Results.{combination, constant_sum, plus_multiple, plus_parts}
use Rattle.linear_formula.specs.Replaced.{summands_of_parts}
use Rattle.linear_formula.proofs.Finishing.{sum_same}
use Rattle.linear_formula.proofs.Limits.{IsTerm-from_test}
use Rattle.linear_formula.proofs.Merging.{at, drop_at}
use Rattle.linear_formula.proofs.Order.{plus_parts-once}
use Rattle.shadow_elim.specs.Sums.{total, first_wide, IsFirstWide}
use Rattle.shadow_elim.specs.declared.limit.Kept.{Kept}
use Rattle.shadow_elim.specs.declared.sum.Sum.{Sum}

-- Terms of few parts

-- what the parts from a place on read, and the constant
abbrev pub read_from : (ℕ → LinearSum) → List (ℕ × ℤ) → ℤ → ℕ → LinearSum
read_from by ps c k = combination (summands_of_parts by (drop k ps) ++ (pos 1, constant_sum c) ∷ []) (pos 0)

pub read_begun : (by : ℕ → LinearSum) (ps : List (ℕ × ℤ)) (c : ℤ) (k : ℕ) (t : LinearSum) → k ≡ length ps → t ≡ constant_sum c →
    t ≡ read_from by ps c k
read_begun by ps c k t h e =
    let none : drop k ps ≡ [] = drop_all k ps (omega (arith, h)) in
    e ∙ sum_same [] [] c ((pos 1 *ℤ c) +ℤ pos 0) refl (omega (arith, ints))
    ∙ ap (λ (qs : List (ℕ × ℤ)). combination (summands_of_parts by qs ++ (pos 1, constant_sum c) ∷ []) (pos 0)) (sym none)

once : (t : LinearSum) → IsTrue (is_term t) → plus_multiple (pos 1) t (constant_sum (pos 0)) ≡ t
once t h =
    sum_same (plus_parts (pos 1) t.parts []) t.parts ((pos 1 *ℤ t.constant) +ℤ pos 0) t.constant
    (plus_parts-once 0 t.parts (IsTerm-from_test t h).order) (omega (arith, ints))

pub read_more : (by : ℕ → LinearSum) (ps : List (ℕ × ℤ)) (c m : ℤ) (k : ℕ) (u t r : LinearSum) → k < length ps →
    t ≡ read_from by ps c (k + 1) → IsTrue (is_term t) → m ≡ (at ps k).1 → u ≡ by (at ps k).0 →
    r ≡ combination ((m, u) ∷ (pos 1, t) ∷ []) (pos 0) → r ≡ read_from by ps c k
read_more by ps c m k u t r h et kept em eu er =
    er ∙ ap (plus_multiple m u) (once t kept) ∙ ap (λ (n : ℤ). plus_multiple n u t) em
    ∙ ap (λ (v : LinearSum). plus_multiple (at ps k).1 v t) eu ∙ ap (plus_multiple (at ps k).1 (by (at ps k).0)) et
    ∙ ap (λ (qs : List (ℕ × ℤ)). combination (summands_of_parts by qs ++ (pos 1, constant_sum c) ∷ []) (pos 0)) (sym (drop_at ps k h))

-- Sums after others

pub first_behind : (sums more : List Sum) (o : Option Sum) → first_wide sums ≡ None → first_wide more ≡ o → first_wide (sums ++ more) ≡ o
first_behind [] more o e f = f
first_behind (s ∷ sums) more o e f = by_test (is_within (total s)) e (λ h. first_behind sums more o h f) where
  by_test : (b : Bool) → (if b then first_wide sums else Some s) ≡ None → (first_wide sums ≡ None → first_wide (sums ++ more) ≡ o) →
      (if b then first_wide (sums ++ more) else Some s) ≡ o
  by_test true h next = next h
  by_test false h next = absurd cc

first_in_front : (sums more : List Sum) (s : Sum) → first_wide sums ≡ Some s → first_wide (sums ++ more) ≡ Some s
first_in_front [] more s e = absurd cc
first_in_front (t ∷ sums) more s e = by_test (is_within (total t)) e (first_in_front sums more s) where
  by_test : (b : Bool) → (if b then first_wide sums else Some t) ≡ Some s →
      (first_wide sums ≡ Some s → first_wide (sums ++ more) ≡ Some s) → (if b then first_wide (sums ++ more) else Some t) ≡ Some s
  by_test true f next = next f
  by_test false f next = f

-- the limit of the first wide sum, with others after and before it
pub limit_in_front : (sums more : List Sum) (k : Kept) → IsFirstWide sums k → IsFirstWide (sums ++ more) k
limit_in_front sums more k h = record { sum = h.sum; first = first_in_front sums more h.sum h.first; same = h.same }

pub limit_behind : (sums more : List Sum) (k : Kept) → first_wide sums ≡ None → IsFirstWide more k → IsFirstWide (sums ++ more) k
limit_behind sums more k e h = record { sum = h.sum; first = first_behind sums more (Some h.sum) e h.first; same = h.same }
