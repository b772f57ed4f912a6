use Rattle.std.proofs.Common.{◌+◌, ◌*◌}
use Rattle.lia_solver.specs.steps.Deriving.{level}
use Rattle.lia_solver.specs.steps.Entries.{sum_at}
use Rattle.lia_solver.proofs.derivation.Derivation.+derive.Given as goal

abbrev pub decreases-number : goal.decreases-number
decreases-number l = 2 * level (sum_at l.table.now l.place).parts + 1

abbrev pub decreases-derive : goal.decreases-derive
decreases-derive l = 2 * level (sum_at l.table.now l.place).parts
