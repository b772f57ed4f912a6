use Rattle.std.proofs.Common.{◌≡◌, take}
use Rattle.infeasible_cert.specs.steps.Renumbering.{renumbered_rows}
use Rattle.infeasible_cert.proofs.renumber.renumber_rows.Given as goal

abbrev pub invariant-loop-row : goal.invariant-loop-row
invariant-loop-row l = l.moved.items ≡ renumbered_rows l.numbers l.count (take l.row-index l.rows)
