-- Not-mays whose start nothing meets hold of every program.
use Rattle.std.proofs.Common.{List, [], ◌∷◌, ◌++◌}
use Rattle.c_tree.specs.Syntax.{PureProgram}
use Rattle.linear_formula.specs.Formula.{HoldsAll}
use Rattle.linear_formula.specs.LinearSum.{Valuation}
use Rattle.linear_formula.specs.declared.formula.Atom.{Atom}
use Rattle.flow_graph.specs.Columns.{valuation_of}
use Rattle.summary_form.specs.Answering.{SummaryHolds}
use Rattle.summary_form.specs.Instances.{program_runs, arity_of_program}
use Rattle.summary_form.specs.NotMays.{read_with}
use Rattle.summary_form.specs.declared.summary.Summary.{Summary}
use Rattle.summary_form.specs.declared.summary.Summary.TheVariants.{NotMay, Must}
use Rattle.summary_keep.specs.Keeping.{SummariesHold}
use Rattle.keep_tests.specs.Impossible.{SaysNothing, SayNothing}

front_holds : (v : Valuation) (atoms others : List Atom) → HoldsAll v (atoms ++ others) → HoldsAll v atoms
front_holds v [] others h = tt
front_holds v (atom ∷ atoms) others h = (h.0, front_holds v atoms others h.1)

nothing_holds : (P : PureProgram) (s : Summary) → SaysNothing s → SummaryHolds (program_runs P) (arity_of_program P) s
nothing_holds P (NotMay query) none = λ d args ins values run meets.
    let v = valuation_of args (read_with query.exit values) in none v (front_holds v query.start.atoms query.end.atoms meets)
nothing_holds P (Must path) none = absurd none

pub all_hold : (P : PureProgram) (ss : List Summary) → SayNothing ss → SummariesHold P ss
all_hold P [] none = tt
all_hold P (s ∷ ss) none = (nothing_holds P s none.0, all_hold P ss none.1)
