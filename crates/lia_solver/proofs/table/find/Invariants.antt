use Rattle.lia_solver.proofs.Chains.{IsFinding}
use Rattle.lia_solver.proofs.table.find.Given as goal

abbrev pub invariant-loop-past : goal.invariant-loop-past
invariant-loop-past l = IsFinding l.chains l.pool l.lines l.past l.parts

abbrev pub decreases-loop-past : goal.decreases-loop-past
decreases-loop-past l = l.past
