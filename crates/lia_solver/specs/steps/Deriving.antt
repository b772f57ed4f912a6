-- Steps that derive rows of a table.
use Rattle.std.specs.Prelude.{◌≡◌, ℕ, ◌+◌, ◌^◌, ◌<◌, List, [], ◌∷◌, ◌++◌, length, slice_index_or, ℤ}
use Rattle.linear_formula.specs.LinearSum.{LinearSum}
use Rattle.infeasible_cert.specs.declared.certificate.Derived.{Derived}
use Rattle.infeasible_cert.specs.Right.{row_at, rows_after, AreRightSteps}
use Rattle.infeasible_cert.specs.Terms.{AreDerivedTerms}
use Rattle.lia_solver.specs.declared.derivation.Derivation.{Derivation}
use Rattle.lia_solver.specs.declared.table.Making.{Making}
use Rattle.lia_solver.specs.steps.Entries.{Entry, sum_at}
use Rattle.lia_solver.specs.steps.Solved.{HaveOrigins}

-- the row has this number
pub record IsNumbered (rows : List LinearSum) (n : ℕ) (t : LinearSum) : Type 0 where
  pub inside : n < length rows
  pub here : row_at rows n ≡ t

-- each step follows, and rows that have a number are found under it
pub record IsDerivation (base : List LinearSum) (entries : List Entry) (d : Derivation) : Type 0
  where
    pub first : length base ≡ d.first
    pub count : length d.numbers.items ≡ length entries
    pub right : AreRightSteps base d.steps.items
    pub terms : AreDerivedTerms d.steps.items
    pub found : (i n : ℕ) → slice_index_or d.numbers.items i 0 ≡ n + 1 →
        IsNumbered (rows_after base d.steps.items) n (sum_at entries i)

-- what a derivation stands on
pub record IsFounded (base : List LinearSum) (entries : List Entry) (d : Derivation) : Type 0 where
  pub derivation : IsDerivation base entries d
  pub origins : HaveOrigins base (2 ^ 32) entries

-- the last step has this row
abbrev pub EndWith : LinearSum → List Derived → Type 0
EndWith t ds = (front : List Derived) × (d : Derived) × (ds ≡ front ++ d ∷ []) × (d.row.term ≡ t)

-- the step of a row that is made of two rows with these numbers
abbrev pub step_by : LinearSum → Making → (upper lower : ℕ) → Derived
step_by t m upper lower = record {
  row = record { term = t };
  parts = (upper, m.upper_multiple) ∷ (lower, m.lower_multiple) ∷ [];
  divide = m.divide;
}

-- the first column that the row names, or 2^32
abbrev pub level : List (ℕ × ℤ) → ℕ
level [] = 2 ^ 32
level (p ∷ ps) = p.0
