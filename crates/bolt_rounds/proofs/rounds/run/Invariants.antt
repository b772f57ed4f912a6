use Rattle.std.proofs.Common.{◌*◌, ◌-◌, length}
use Rattle.bolt_core.specs.Boards.{SameProgram, most_queries}
use Rattle.bolt_rounds.specs.steps.Places.{IsAtRest}
use Rattle.bolt_rounds.proofs.rounds.run.Given as goal

abbrev pub invariant-loop-crew : goal.invariant-loop-crew
invariant-loop-crew g l = record {
  same : SameProgram l.fn.board l.board;
  rest : IsAtRest l.board l.crew;
}

-- the events that there is still room for
abbrev pub decreases-loop-crew : goal.decreases-loop-crew
decreases-loop-crew g l = 16 * most_queries l.board - length l.board.core.history
