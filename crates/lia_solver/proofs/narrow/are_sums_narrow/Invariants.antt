use Rattle.lia_solver.proofs.Narrowing.{AreNarrowWithTo}
use Rattle.lia_solver.proofs.narrow.are_sums_narrow.Given as goal

abbrev pub invariant-loop-lower : goal.invariant-loop-lower
invariant-loop-lower l = AreNarrowWithTo l.column l.table l.upper l.lower
