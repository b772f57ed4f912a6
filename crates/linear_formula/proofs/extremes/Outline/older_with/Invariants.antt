use Rattle.std.proofs.Common.{◌≡◌, take}
use Rattle.linear_formula.proofs.extremes.Outline.older_with.Given as goal

abbrev pub invariant-loop-list : goal.invariant-loop-list
invariant-loop-list l = l.all.items ≡ take l.list-index l.older
