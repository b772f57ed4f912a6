use Rattle.std.proofs.Common.{◌-◌}
use Rattle.linear_formula.proofs.Searching.{Between}
use Rattle.linear_formula.proofs.column.coefficient_of.Given as goal

abbrev pub invariant-loop-low : goal.invariant-loop-low
invariant-loop-low l = Between l.parts l.column l.low l.high

abbrev pub decreases-loop-low : goal.decreases-loop-low
decreases-loop-low l = l.high - l.low
