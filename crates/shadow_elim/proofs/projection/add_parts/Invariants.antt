use Rattle.std.proofs.Common.{◌≡◌, ◌≤◌, drop, length}
use Rattle.infeasible_cert.specs.Right.{with_columns}
use Rattle.shadow_elim.proofs.projection.add_parts.Given as goal

abbrev pub invariant-loop-left : goal.invariant-loop-left
invariant-loop-left l =
    (l.left ≤ length l.parts) × (l.columns.keys ≡ with_columns (drop l.left l.parts) l.fn.columns.keys)

abbrev pub decreases-loop-left : goal.decreases-loop-left
decreases-loop-left l = l.left
