use Rattle.std.proofs.Common.{◌≡◌, ◌++◌}
use Rattle.flow_build.specs.steps.Layouts.{slots_from}
use Rattle.flow_build.proofs.layout.push_globals.Given as goal

abbrev pub invariant-loop-number : goal.invariant-loop-number
invariant-loop-number l = l.slots.items ≡ l.fn.slots.items ++ slots_from l.layout.params l.number
