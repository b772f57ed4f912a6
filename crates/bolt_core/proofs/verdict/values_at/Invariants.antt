use Rattle.std.proofs.Common.{◌≡◌, take}
use Rattle.linear_formula.specs.LinearSum.{valuation}
use Rattle.summary_form.specs.Musts.{values_of}
use Rattle.bolt_core.proofs.verdict.values_at.Given as goal

abbrev pub invariant-loop-term : goal.invariant-loop-term
invariant-loop-term l = l.values.items ≡ values_of (valuation l.point) (take l.term-index l.terms)
