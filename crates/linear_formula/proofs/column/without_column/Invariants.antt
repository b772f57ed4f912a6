use Rattle.std.proofs.Common.{◌≡◌, ◌++◌, drop}
use Rattle.linear_formula.specs.Results.{without_part}
use Rattle.linear_formula.proofs.column.without_column.Given as goal

abbrev pub invariant-loop-x : goal.invariant-loop-x
invariant-loop-x l = l.rest.items ++ without_part l.column (drop l.x-index l.parts) ≡ without_part l.column l.parts
