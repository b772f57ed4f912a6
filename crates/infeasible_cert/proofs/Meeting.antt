-- Rows that are in order, and met.
use Rattle.std.proofs.Common.{ℕ, suc, zero, ◌<◌, ◌+◌, ◌^◌, List, [], ◌∷◌, ◌++◌, ℤ, pos, ◌==◌, nat_lt, arith}
use Rattle.std.specs.Prelude.{IsTrue, ◌≤ℤ◌}
use Rattle.std.proofs.lemmas.Int.{ints}
use Rattle.linear_formula.specs.LinearSum.{LinearSum, Valuation, Is64, value_of, is_term}
use Rattle.linear_formula.specs.steps.Order.{InOrder}
use Rattle.linear_formula.specs.Results.{combination_value}
use Rattle.linear_formula.specs.Formula.{HoldsAll, are_terms}
use Rattle.linear_formula.specs.declared.formula.Atom.{Atom}
use Rattle.linear_formula.proofs.Ring.{one-mul}
use Rattle.linear_formula.proofs.Limits.{both, IsTerm-from_test}
use Rattle.linear_formula.proofs.Values.{chosen}
use Rattle.linear_formula.proofs.Combinations.{AllInOrder}
use Rattle.infeasible_cert.specs.Right.{range_rows, with_column, with_columns, columns_of, rows_of, base_rows, row_at, summands, AreMultiples}
use Rattle.infeasible_cert.specs.steps.Known.{RowsInOrder}
use Rattle.infeasible_cert.proofs.Signs.{mul_nonpos, is64-bounds}

-- each row is met
abbrev pub AllMet : Valuation → List LinearSum → Type 0
AllMet v [] = Unit {0}
AllMet v (t ∷ ts) = (value_of v t ≤ℤ pos 0) × AllMet v ts

pub met-append : (v : ℕ → ℤ) (ts us : List LinearSum) → AllMet v ts → AllMet v us → AllMet v (ts ++ us)
met-append v [] us h k = k
met-append v (t ∷ ts) us h k = (h.0, met-append v ts us h.1 k)

pub met-last : (v : ℕ → ℤ) (ts : List LinearSum) (t : LinearSum) → AllMet v (ts ++ t ∷ []) → value_of v t ≤ℤ pos 0
met-last v [] t h = h.0
met-last v (s ∷ ts) t h = met-last v ts t h.1

pub order-append : (ts us : List LinearSum) → RowsInOrder ts → RowsInOrder us → RowsInOrder (ts ++ us)
order-append [] us h k = k
order-append (t ∷ ts) us h k = (h.0, order-append ts us h.1 k)

pub met-at : (v : ℕ → ℤ) (ts : List LinearSum) (n : ℕ) → AllMet v ts → value_of v (row_at ts n) ≤ℤ pos 0
met-at v [] zero h = omega (arith, ints)
met-at v [] (suc n) h = omega (arith, ints)
met-at v (t ∷ ts) zero h = h.0
met-at v (t ∷ ts) (suc n) h = met-at v ts n h.1

pub order-at : (ts : List LinearSum) (n : ℕ) → RowsInOrder ts → InOrder 0 (row_at ts n).parts
order-at [] zero h = tt
order-at [] (suc n) h = tt
order-at (t ∷ ts) zero h = h.0
order-at (t ∷ ts) (suc n) h = order-at ts n h.1

pub summands-met : (v : ℕ → ℤ) (ts : List LinearSum) (ps : List (ℕ × ℤ)) → AreMultiples ts ps → AllMet v ts →
    combination_value v (summands ts ps) (pos 0) ≤ℤ pos 0
summands-met v ts [] m h = omega (arith, ints)
summands-met v ts (p ∷ ps) m h =
    omega (arith, ints, mul_nonpos p.1 (value_of v (row_at ts p.0)) m.1 (met-at v ts p.0 h), summands-met v ts ps m.2 h)

pub summands-order : (ts : List LinearSum) (ps : List (ℕ × ℤ)) → RowsInOrder ts → AllInOrder (summands ts ps)
summands-order ts [] h = tt
summands-order ts (p ∷ ps) h = (order-at ts p.0 h, summands-order ts ps h)

-- the rows of ranges
pub ranges-met : (v : ℕ → ℤ) (xs : List ℕ) → Is64 v → AllMet v (range_rows xs)
ranges-met v [] h = tt
ranges-met v (x ∷ xs) h =
    let bounds = is64-bounds (v x) (h x) in
    (omega (arith, ints, bounds.0, one-mul (v x)), (omega (arith, ints, bounds.1), ranges-met v xs h))

-- columns of 32 bits
abbrev pub AreColumns : List ℕ → Type 0
AreColumns [] = Unit {0}
AreColumns (x ∷ xs) = (x < 2 ^ 32) × AreColumns xs

ranges-order : (xs : List ℕ) → AreColumns xs → RowsInOrder (range_rows xs)
ranges-order [] h = tt
ranges-order (x ∷ xs) h =
    ((omega arith, h.0, (λ e. cc), tt), ((omega arith, h.0, (λ e. cc), tt), ranges-order xs h.1))

columns-with : (x : ℕ) (xs : List ℕ) → x < 2 ^ 32 → AreColumns xs → AreColumns (with_column x xs)
columns-with x [] k h = (k, tt)
columns-with x (y ∷ ys) k h =
    chosen AreColumns (nat_lt x y) (x == y) (x ∷ y ∷ ys) (y ∷ ys) (y ∷ with_column x ys) (λ _. (k, h)) (λ _ _. h)
    (λ _ _. (h.0, columns-with x ys k h.1))

columns-with_all : (low : ℕ) (ps : List (ℕ × ℤ)) (xs : List ℕ) → InOrder low ps → AreColumns xs → AreColumns (with_columns ps xs)
columns-with_all low [] xs o h = h
columns-with_all low (p ∷ ps) xs o h =
    columns-with p.0 (with_columns ps xs) o.1 (columns-with_all (p.0 + 1) ps xs o.3 h)

columns-of : (ts : List LinearSum) → RowsInOrder ts → AreColumns (columns_of ts)
columns-of [] h = tt
columns-of (t ∷ ts) h = columns-with_all 0 t.parts (columns_of ts) h.0 (columns-of ts h.1)

atoms-order : (atoms : List Atom) → IsTrue (are_terms atoms) → RowsInOrder (rows_of atoms)
atoms-order [] h = tt
atoms-order (a ∷ atoms) h =
    let hs = both (is_term a.term) (are_terms atoms) h in
    ((IsTerm-from_test a.term hs.0).order, atoms-order atoms hs.1)

atoms-met : (v : ℕ → ℤ) (atoms : List Atom) → HoldsAll v atoms → AllMet v (rows_of atoms)
atoms-met v [] h = tt
atoms-met v (a ∷ atoms) h = (h.0, atoms-met v atoms h.1)

pub base-order : (atoms : List Atom) → IsTrue (are_terms atoms) → RowsInOrder (base_rows atoms)
base-order atoms h =
    let o = atoms-order atoms h in
    order-append (rows_of atoms) (range_rows (columns_of (rows_of atoms))) o
    (ranges-order (columns_of (rows_of atoms)) (columns-of (rows_of atoms) o))

pub base-met : (v : ℕ → ℤ) (atoms : List Atom) → Is64 v → HoldsAll v atoms → AllMet v (base_rows atoms)
base-met v atoms w h =
    met-append v (rows_of atoms) (range_rows (columns_of (rows_of atoms))) (atoms-met v atoms h)
    (ranges-met v (columns_of (rows_of atoms)) w)
