use Rattle.std.proofs.Common.{◌≡◌}
use Rattle.lia_solver.proofs.DividedParts.{partly_divided}
use Rattle.lia_solver.proofs.division.divide_all.Given as goal

abbrev pub invariant-loop-part : goal.invariant-loop-part
invariant-loop-part l = l.parts ≡ partly_divided l.divisor l.part-index l.initial.parts
