use Rattle.lia_solver.proofs.Summing.{AreEliminatedTo}
use Rattle.lia_solver.proofs.eliminate.add_all.Given as goal

abbrev pub invariant-loop-place : goal.invariant-loop-place
invariant-loop-place l = AreEliminatedTo l.column l.initial.table l.table l.place
