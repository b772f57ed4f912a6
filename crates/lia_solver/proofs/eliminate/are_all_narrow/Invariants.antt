use Rattle.lia_solver.proofs.Summing.{AreAllNarrowTo}
use Rattle.lia_solver.proofs.eliminate.are_all_narrow.Given as goal

abbrev pub invariant-loop-upper : goal.invariant-loop-upper
invariant-loop-upper l = AreAllNarrowTo l.column l.table l.upper
