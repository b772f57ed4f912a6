-- The answer to the question of one atom.
use Rattle.std.specs.Prelude.{◌≡◌, ◌↔◌, true, IsTrue, List}
use Rattle.linear_formula.specs.LinearSum.{Valuation, valuation, is_term}
use Rattle.linear_formula.specs.Results.{negated}
use Rattle.linear_formula.specs.Formula.{Holds, HoldsAll}
use Rattle.linear_formula.specs.declared.formula.Atom.{Atom}
use Rattle.infeasible_cert.specs.Refutation.{refutation_of}
use Rattle.infeasible_cert.specs.Right.{Refutes, columns_of, rows_of}
use Rattle.infeasible_cert.specs.Terms.{HasTerms}
use Rattle.lia_solver.specs.declared.entails.Left.{Left}
use Rattle.lia_solver.specs.declared.entails.Answer.{Answer}
use Rattle.lia_solver.specs.declared.entails.Answer.TheVariants.{Never, Point, Limit}
use Rattle.lia_solver.specs.steps.Implied.{IsSimple}
use Rattle.shadow_elim.specs.Questions.{with_negation, IsEntailed}
use Rattle.shadow_elim.specs.Entailment.{IsPointOf, IsLimitOf}

-- the cube of these atoms with its columns
pub record IsLeft (atoms : List Atom) (left : Left) : Type 0 where
  pub atoms_are : left.cube.atoms ≡ atoms
  pub columns_are : left.columns.items ≡ columns_of (rows_of atoms)
  pub simple : left.simple ≡ true → IsSimple atoms left.columns.items

-- the negation of an atom, which is a term
pub record IsNegation (atom negation : Atom) : Type 0 where
  pub value : negation.term ≡ negated atom.term
  pub term : IsTrue (is_term negation.term)
  pub law : (v : Valuation) → Holds v negation ↔ (¬ Holds v atom)

abbrev pub IsAnswerTo : List Atom → Atom → Answer → Type 0
IsAnswerTo left atom (Never certificate rest) =
    IsEntailed left atom × Refutes (with_negation left atom) (refutation_of certificate) ×
    HasTerms (refutation_of certificate) × IsLeft left rest
IsAnswerTo left atom (Point at) = IsPointOf left at atom × HoldsAll (valuation at)
    (with_negation left atom)
IsAnswerTo left atom (Limit kept) = IsLimitOf left kept atom
