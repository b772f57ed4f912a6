-- Nothing meets a cube that has a right certificate.
use Rattle.std.proofs.Common.{◌≡◌, ℕ, List, [], ◌∷◌, ◌++◌, ℤ, pos, ◌+ℤ◌, arith, sym, ◌∙◌, ap}
use Rattle.std.specs.Prelude.{IsTrue, ◌≤ℤ◌}
use Rattle.std.proofs.lemmas.Int.{ints, by_lt_z}
use Rattle.linear_formula.specs.LinearSum.{LinearSum, Valuation, Is64, value_of, value_of_parts}
use Rattle.linear_formula.specs.steps.Order.{InOrder}
use Rattle.linear_formula.specs.Results.{combination, plus_parts}
use Rattle.linear_formula.specs.Formula.{HoldsAll, are_terms}
use Rattle.linear_formula.specs.declared.formula.Atom.{Atom}
use Rattle.linear_formula.proofs.Ring.{add-zero}
use Rattle.linear_formula.proofs.Order.{InOrder-plus_parts, listed-plus_parts, same_parts}
use Rattle.linear_formula.proofs.Values.{value-plus_parts, value-combination}
use Rattle.linear_formula.proofs.Combinations.{InOrder-combination}
use Rattle.linear_formula.proofs.Limits.{IsTerm-from_test}
use Rattle.infeasible_cert.specs.declared.certificate.Derived.{Derived}
use Rattle.infeasible_cert.specs.Refutation.{Refutation, close, branch}
use Rattle.infeasible_cert.specs.Right.{summands, IsRightStep, rows_after, AreRightSteps, EndsInContradiction, IsRight, Refutes, at_most, at_least, base_rows}
use Rattle.infeasible_cert.specs.Terms.{AreDerivedTerms, HasTerms}
use Rattle.infeasible_cert.specs.steps.Known.{RowsInOrder}
use Rattle.infeasible_cert.proofs.Signs.{rounded_nonpos}
use Rattle.infeasible_cert.proofs.Meeting.{AllMet, met-append, met-last, order-append, summands-met, summands-order, base-order, base-met}

-- the parts of the sum are multiples of the row's
divided_parts : (ts : List LinearSum) (d : Derived) → IsRightStep ts d → RowsInOrder ts → InOrder 0 d.row.term.parts →
    (combination (summands ts d.parts) (pos 0)).parts ≡ plus_parts d.divide d.row.term.parts []
divided_parts ts d s o r =
    let sum = combination (summands ts d.parts) (pos 0) in
    same_parts 0 0 sum.parts (plus_parts d.divide d.row.term.parts []) (InOrder-combination (summands ts d.parts) (pos 0)
    (summands-order ts d.parts o)) (InOrder-plus_parts 0 d.divide d.row.term.parts [] r tt) (λ x. s.divided x
    ∙ sym (listed-plus_parts x 0 0 d.divide d.row.term.parts [] r tt ∙ add-zero _))

-- a right step gives a row that is met where the earlier ones are
step-met : (v : ℕ → ℤ) (ts : List LinearSum) (d : Derived) → IsRightStep ts d → RowsInOrder ts → InOrder 0 d.row.term.parts → AllMet v ts →
    value_of v d.row.term ≤ℤ pos 0
step-met v ts d s o r h =
    let sum = combination (summands ts d.parts) (pos 0) in
    let whole = value-combination v (summands ts d.parts) (pos 0) in
    let parts = ap (value_of_parts v) (divided_parts ts d s o r) ∙ value-plus_parts v d.divide d.row.term.parts [] in
    let below = summands-met v ts d.parts s.named h in
    rounded_nonpos d.divide (value_of_parts v d.row.term.parts) sum.constant d.row.term.constant s.divisor
    (omega (arith, ints, whole, parts, below)) s.rounded.1

pub record Reached (v : Valuation) (ts : List LinearSum) : Type 0 where
  pub order : RowsInOrder ts
  pub met : AllMet v ts

reach-one : (v : ℕ → ℤ) (ts : List LinearSum) (t : LinearSum) → Reached v ts → InOrder 0 t.parts → value_of v t ≤ℤ pos 0 →
    Reached v (ts ++ t ∷ [])
reach-one v ts t r o h = record {
  order = order-append ts (t ∷ []) r.order (o, tt);
  met = met-append v ts (t ∷ []) r.met (h, tt);
}

reach-all : (v : ℕ → ℤ) (ts : List LinearSum) (ds : List Derived) → AreRightSteps ts ds → AreDerivedTerms ds → Reached v ts →
    Reached v (rows_after ts ds)
reach-all v ts [] s k r = r
reach-all v ts (d ∷ ds) s k r =
    let o = (IsTerm-from_test d.row.term k.0).order in
    reach-all v (ts ++ d.row.term ∷ []) ds s.1 k.1 (reach-one v ts d.row.term r o (step-met v ts d s.0 r.order o r.met))

contradicted : (v : ℕ → ℤ) (ts : List LinearSum) (ds : List Derived) → EndsInContradiction ds → AllMet v (rows_after ts ds) → ⊥
contradicted v ts [] e h = e
contradicted v ts (d ∷ []) e h =
    let last = met-last v ts d.row.term h in
    let none = ap (value_of_parts v) e.0 in
    omega (arith, ints, last, none, e.1)
contradicted v ts (d ∷ f ∷ ds) e h = contradicted v (ts ++ d.row.term ∷ []) (f ∷ ds) e h

-- no values reach a right certificate
refuted : (v : ℕ → ℤ) (ts : List LinearSum) (c : Refutation) → IsRight ts c → HasTerms c → Reached v ts → ⊥
refuted v ts (close ds) h k r = contradicted v ts ds h.1 (reach-all v ts ds h.0 k r).met
refuted v ts (branch ds x at low high) h k r =
    let here = reach-all v ts ds h.0 k.0 r in
    by_lt_z at (v x) (λ more. refuted v (rows_after ts ds ++ at_least x (at +ℤ pos 1) ∷ []) high h.3 k.3
    (reach-one v (rows_after ts ds) (at_least x (at +ℤ pos 1)) here (omega arith, k.1, (λ e. cc), tt) (omega (arith, ints)))) (λ less.
    refuted v (rows_after ts ds ++ at_most x at ∷ []) low h.2 k.2 (reach-one v (rows_after ts ds) (at_most x at) here
    (omega arith, k.1, (λ e. cc), tt) (omega (arith, ints))))

pub right-sound : (atoms : List Atom) (c : Refutation) (v : Valuation) → IsTrue (are_terms atoms) → HasTerms c → Refutes atoms c → Is64 v →
    HoldsAll v atoms → ⊥
right-sound atoms c v t k r w h =
    refuted v (base_rows atoms) c r.right k (record { order = base-order atoms t; met = base-met v atoms w h })
