use Rattle.std.proofs.Common.{◌≡◌, take}
use Rattle.linear_formula.proofs.question.Summands.copy.Given as goal

abbrev pub invariant-loop-multiplier : goal.invariant-loop-multiplier
invariant-loop-multiplier l = l.items.items ≡ take l.multiplier-index l.multiplier-items
