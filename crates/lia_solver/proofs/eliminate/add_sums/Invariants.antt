use Rattle.std.specs.Prelude.{IfSome}
use Rattle.lia_solver.specs.steps.TwoColumns.{AreSides}
use Rattle.lia_solver.proofs.Summing.{AreSummedTo}
use Rattle.lia_solver.proofs.eliminate.add_sums.Given as goal

abbrev pub invariant-loop-lower : goal.invariant-loop-lower
invariant-loop-lower l =
    AreSummedTo l.column l.initial.table l.table l.upper l.lowers l.lower-index × IfSome l.sides (λ s. AreSides s l.table)
