use Rattle.std.proofs.Common.{◌≡◌, take}
use Rattle.shadow_elim.specs.Division.{divided_parts}
use Rattle.punch_step.proofs.sums.divide_parts.Given as goal

abbrev pub invariant-loop-column : goal.invariant-loop-column
invariant-loop-column l = l.items.items ≡ divided_parts l.divisor (take l.column-index l.parts)
