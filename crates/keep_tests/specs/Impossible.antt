-- Not-mays that hold of every program, since nothing meets their start.
use Rattle.std.specs.Prelude.{List, [], ◌∷◌}
use Rattle.linear_formula.specs.Formula.{HoldsAll}
use Rattle.linear_formula.specs.LinearSum.{Valuation}
use Rattle.linear_formula.specs.declared.formula.Atom.{Atom}
use Rattle.summary_form.specs.declared.summary.Summary.{Summary}
use Rattle.summary_form.specs.declared.summary.Summary.TheVariants.{NotMay, Must}

abbrev pub AreImpossible : List Atom → Type 0
AreImpossible atoms = (v : Valuation) → HoldsAll v atoms → ⊥

abbrev pub SaysNothing : Summary → Type 0
SaysNothing (NotMay query) = AreImpossible query.start.atoms
SaysNothing (Must path) = ⊥

abbrev pub SayNothing : List Summary → Type 0
SayNothing [] = Unit {0}
SayNothing (s ∷ ss) = SaysNothing s × SayNothing ss
