use Rattle.linear_formula.proofs.Combining.{Adding}
use Rattle.linear_formula.proofs.term.Term.combine_by_column.Given as goal

abbrev pub invariant-loop-left : goal.invariant-loop-left
invariant-loop-left l = Adding l.parts l.constant l.left l.sums l.total

abbrev pub decreases-loop-left : goal.decreases-loop-left
decreases-loop-left l = l.left
