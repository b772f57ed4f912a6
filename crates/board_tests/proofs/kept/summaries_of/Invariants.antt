use Rattle.std.proofs.Common.{◌≡◌, map, take}
use Rattle.board_tests.proofs.kept.summaries_of.Given as goal

abbrev pub invariant-loop-summary : goal.invariant-loop-summary
invariant-loop-summary l = map (λ a. a.value) l.summaries.items ≡ take l.summary-index l.board.core.table
