use Rattle.std.proofs.Common.{◌≡◌, ◌≤◌, ◌+◌, drop, length}
use Rattle.linear_formula.specs.Results.{plus_parts}
use Rattle.linear_formula.proofs.sums.Sums.add_all.Given as goal

abbrev pub invariant-loop-left : goal.invariant-loop-left
invariant-loop-left l =
    (l.left ≤ length l.parts) × (l.self.adds + l.left ≡ l.initial.self.adds + length l.parts)
    × (l.self.parts ≡ plus_parts l.multiplier (drop l.left l.parts) l.initial.self.parts)

abbrev pub decreases-loop-left : goal.decreases-loop-left
decreases-loop-left l = l.left
