use Rattle.lia_solver.proofs.Bounded.{AreBounds}
use Rattle.lia_solver.proofs.bounds.bounds_of.Given as goal

abbrev pub invariant-loop-place : goal.invariant-loop-place
invariant-loop-place l = AreBounds l.column l.at l.table l.place l.bounds
