use Rattle.lia_solver.proofs.Narrowing.{AreNarrowBelowTo}
use Rattle.lia_solver.proofs.narrow.are_all_sums_narrow.Given as goal

abbrev pub invariant-loop-upper : goal.invariant-loop-upper
invariant-loop-upper l = AreNarrowBelowTo l.column l.table l.upper
