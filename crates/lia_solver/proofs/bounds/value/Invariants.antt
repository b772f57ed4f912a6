use Rattle.linear_formula.specs.LinearSum.{valuation}
use Rattle.linear_formula.proofs.Evaluating.{Evaluated}
use Rattle.lia_solver.proofs.bounds.value.Given as goal

abbrev pub invariant-loop-column : goal.invariant-loop-column
invariant-loop-column l = Evaluated (valuation l.at) l.constant l.parts l.sum l.column-index
