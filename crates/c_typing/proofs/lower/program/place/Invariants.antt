use Rattle.std.proofs.Common.{◌≡◌, ◌++◌, drop}
use Rattle.c_typing.specs.steps.LoweringSteps.{placed}
use Rattle.c_typing.proofs.lower.program.place.Given as goal

abbrev pub invariant-loop-at : goal.invariant-loop-at
invariant-loop-at l = l.places.items ++ placed l.proc (drop l.at-index l.asserts) ≡ l.fn.places.items ++ placed l.proc l.asserts
