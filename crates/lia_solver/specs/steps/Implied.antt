-- Rows of a cube that entail an atom by themselves.
use Rattle.std.specs.Prelude.{◌+◌, ◌*◌, ◌^◌, ◌<◌, ◌≤◌, ℕ, ℤ, pos, All, List, [], ◌∷◌, length, unsigned_abs, IsTrue}
use Rattle.linear_formula.specs.LinearSum.{LinearSum, is_term}
use Rattle.linear_formula.specs.declared.formula.Atom.{Atom}
use Rattle.infeasible_cert.specs.declared.certificate.Certificate.{Certificate}
use Rattle.infeasible_cert.specs.declared.certificate.Derived.{Derived}
use Rattle.infeasible_cert.specs.Refutation.{refutation_of}
use Rattle.infeasible_cert.specs.Right.{Refutes}
use Rattle.infeasible_cert.specs.Terms.{HasTerms}
use Rattle.shadow_elim.specs.Questions.{with_negation, IsNever}
use Rattle.shadow_elim.specs.steps.Plain.{IsPlain}

-- a term of at most one column, with numbers so small that no sum of two such is beyond the limits
pub record IsShort (t : LinearSum) : Type 0 where
  pub term : IsTrue (is_term t)
  pub plain : IsPlain t
  pub constant : unsigned_abs t.constant ≤ 2 ^ 64

-- with one more such row the cube has so few rows and columns that the plan meets no limit
pub record IsSimple (atoms : List Atom) (columns : List ℕ) : Type 0 where
  pub short : All (λ a. IsShort a.term) atoms
  pub columns_few : length columns ≤ 256
  pub rows_few : length atoms + 2 * length columns < 4095

-- the sum of two rows, which has no column
abbrev pub sum_of_two : ℕ → ℕ → ℤ → Derived
sum_of_two first second constant =
    record {
      row = record { term = record { parts = []; constant = constant } };
      parts = (first, pos 1) ∷ (second, pos 1) ∷ [];
      divide = pos 1;
    }

-- what an answer without a search says of the atom
pub record IsImplied (left : List Atom) (atom : Atom) (c : Certificate) : Type 0 where
  pub never : IsNever (with_negation left atom)
  pub refutes : Refutes (with_negation left atom) (refutation_of c)
  pub terms : HasTerms (refutation_of c)
