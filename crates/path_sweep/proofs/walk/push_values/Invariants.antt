use Rattle.std.proofs.Common.{◌≡◌, ◌++◌, take}
use Rattle.linear_formula.specs.LinearSum.{valuation}
use Rattle.summary_form.specs.Musts.{values_of}
use Rattle.path_sweep.proofs.walk.push_values.Given as goal

abbrev pub invariant-loop-term : goal.invariant-loop-term
invariant-loop-term l = l.values.items ≡ l.fn.values.items ++ values_of (valuation l.at) (take l.term-index l.terms)
