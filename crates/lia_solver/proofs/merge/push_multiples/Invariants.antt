use Rattle.linear_formula.proofs.Merging.{One}
use Rattle.lia_solver.proofs.merge.push_multiples.Given as goal

abbrev pub invariant-loop-column : goal.invariant-loop-column
invariant-loop-column l = One l.multiplier l.parts l.initial.out.items l.out.items l.column-index
