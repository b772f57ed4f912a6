use Rattle.std.proofs.Common.{◌≡◌, ◌≤◌, drop, length}
use Rattle.infeasible_cert.specs.Right.{columns_of, rows_of}
use Rattle.shadow_elim.proofs.projection.named_columns.Given as goal

abbrev pub invariant-loop-left : goal.invariant-loop-left
invariant-loop-left l =
    (l.left ≤ length l.rows) × (l.columns.keys ≡ columns_of (rows_of (drop l.left l.rows)))

abbrev pub decreases-loop-left : goal.decreases-loop-left
decreases-loop-left l = l.left
