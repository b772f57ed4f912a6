-- More of the answers of a branch, of its search and of the question of an atom.
use Rattle.std.specs.Prelude.{List}
use Rattle.linear_formula.specs.LinearSum.{Valuation, Is64, valuation}
use Rattle.linear_formula.specs.Formula.{Holds, HoldsAll}
use Rattle.linear_formula.specs.declared.formula.Atom.{Atom}
use Rattle.infeasible_cert.specs.Refutation.{refutation_of}
use Rattle.infeasible_cert.specs.Terms.{AreDerivedTerms, HasTerms}
use Rattle.lia_solver.specs.declared.branch.BranchOutcome.{BranchOutcome}
use Rattle.lia_solver.specs.declared.branch.BranchOutcome.TheVariants as branch
use Rattle.lia_solver.specs.declared.entails.Answer.{Answer}
use Rattle.lia_solver.specs.declared.entails.Answer.TheVariants as answer
use Rattle.lia_solver.specs.declared.solved.Solved.TheVariants.{Point, Never, Limit}
use Rattle.lia_solver.specs.declared.search.Searched.{Searched}
use Rattle.lia_solver.specs.declared.search.Searched.TheVariants as searched

-- the rows of certificates are terms
abbrev pub AreOutcomeTerms : BranchOutcome → Type 0
AreOutcomeTerms (branch.Point at) = Unit {0}
AreOutcomeTerms (branch.Refuted rows) = AreDerivedTerms rows.items
AreOutcomeTerms (branch.Split column at) = Unit {0}
AreOutcomeTerms branch.Wide = Unit {0}
AreOutcomeTerms branch.Rows = Unit {0}

abbrev pub AreSearchedTerms : Searched → Type 0
AreSearchedTerms (searched.Answer solved) = Unit {0}
AreSearchedTerms (searched.Nothing certificate) = HasTerms (refutation_of certificate)

-- an answer is a point or a limit
abbrev pub IsAnswered : Searched → Type 0
IsAnswered (searched.Answer (Point at)) = Unit {0}
IsAnswered (searched.Answer (Never certificate)) = ⊥
IsAnswered (searched.Answer (Limit limit)) = Unit {0}
IsAnswered (searched.Nothing certificate) = Unit {0}

-- the atom follows from the others, or a point meets them and not the atom
abbrev pub IsMeant : List Atom → Atom → Answer → Type 0
IsMeant left atom (answer.Never certificate rest) = (v : Valuation) → Is64 v → HoldsAll v left →
    Holds v atom
IsMeant left atom (answer.Point at) = HoldsAll (valuation at) left × (¬ Holds (valuation at) atom)
IsMeant left atom (answer.Limit kept) = Unit {0}
