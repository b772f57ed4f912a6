use Rattle.std.proofs.Common.{map, take}
use Rattle.std.specs.Arc.{arc_value}
use Rattle.bolt_core.specs.Boards.{IsOneOf}
use Rattle.bolt_core.specs.Machine.{AllOf}
use Rattle.board_tests.proofs.kept.are_of.Given as goal

abbrev pub invariant-loop-summary : goal.invariant-loop-summary
invariant-loop-summary l = AllOf (IsOneOf l.procedures l.asserts) (map arc_value (take l.summary-index l.summaries))
