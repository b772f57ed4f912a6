use Rattle.std.proofs.Common.{◌≡◌, ◌++◌, take, drop}
use Rattle.linear_formula.specs.steps.Order.{AllWithin}
use Rattle.linear_formula.specs.Results.{negated_parts}
use Rattle.linear_formula.proofs.column.negate_all.Given as goal

abbrev pub invariant-loop-part : goal.invariant-loop-part
invariant-loop-part l =
    (l.parts ≡ negated_parts (take l.part-index l.initial.parts) ++ drop l.part-index l.initial.parts) × AllWithin l.parts
