use Rattle.std.proofs.Common.{length}
use Rattle.lia_solver.proofs.columnwise.+solve_columns.Given as goal

abbrev pub decreases-solve_columns : goal.decreases-solve_columns
decreases-solve_columns l = length l.columns.now
