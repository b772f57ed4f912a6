use Rattle.std.proofs.Common.{take}
use Rattle.flow_graph.specs.Columns.{AreAllValues}
use Rattle.smash_run.proofs.analysis.are_values.Given as goal

abbrev pub invariant-loop-number : goal.invariant-loop-number
invariant-loop-number l = AreAllValues (take l.number-index l.numbers)
