use Rattle.std.proofs.Common.{◌+◌, ◌*◌}
use Rattle.lia_solver.proofs.search.Search.+search.Given as goal

abbrev pub decreases-branch : goal.decreases-branch
decreases-branch l = 2 * l.depth + 1

abbrev pub decreases-split : goal.decreases-split
decreases-split l = 2 * l.depth
