use Rattle.lia_solver.proofs.Summing.{AreNarrowTo}
use Rattle.lia_solver.proofs.eliminate.are_narrow.Given as goal

abbrev pub invariant-loop-lower : goal.invariant-loop-lower
invariant-loop-lower l = AreNarrowTo l.column l.table l.upper l.lowers l.lower-index
