use Rattle.lia_solver.proofs.Narrowing.{AreSmallTo}
use Rattle.lia_solver.proofs.narrow.are_small.Given as goal

abbrev pub invariant-loop-place : goal.invariant-loop-place
invariant-loop-place l = AreSmallTo l.column l.table l.place
