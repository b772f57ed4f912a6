use Rattle.std.proofs.Common.{◌≡◌, take}
use Rattle.infeasible_cert.specs.steps.Renumbering.{renumbered_parts}
use Rattle.infeasible_cert.proofs.renumber.renumber_parts.Given as goal

abbrev pub invariant-loop-number : goal.invariant-loop-number
invariant-loop-number l = l.moved.items ≡ renumbered_parts l.numbers l.count (take l.number-index l.parts)
