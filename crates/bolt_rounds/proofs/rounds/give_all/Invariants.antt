use Rattle.std.proofs.Common.{◌≤◌, length}
use Rattle.bolt_core.specs.Boards.{SameProgram}
use Rattle.bolt_rounds.specs.steps.Places.{IsToGive}
use Rattle.bolt_rounds.proofs.rounds.give_all.Given as goal

abbrev pub invariant-loop-crew : goal.invariant-loop-crew
invariant-loop-crew g l = record {
  same : SameProgram l.fn.board l.board;
  more : length l.fn.board.core.history ≤ length l.board.core.history;
  rest : IsToGive l.board l.crew;
}

abbrev pub decreases-loop-crew : goal.decreases-loop-crew
decreases-loop-crew g l = length l.crew.places.items
