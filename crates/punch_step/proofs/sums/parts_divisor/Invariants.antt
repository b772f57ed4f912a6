use Rattle.std.proofs.Common.{◌≡◌, ◌≤◌, drop, length}
use Rattle.shadow_elim.specs.Division.{parts_divisor}
use Rattle.punch_step.proofs.sums.parts_divisor.Given as goal

abbrev pub invariant-loop-left : goal.invariant-loop-left
invariant-loop-left l = (l.left ≤ length l.parts) × (l.divisor ≡ parts_divisor (drop l.left l.parts))

abbrev pub decreases-loop-left : goal.decreases-loop-left
decreases-loop-left l = l.left
