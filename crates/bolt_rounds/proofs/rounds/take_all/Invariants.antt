use Rattle.std.proofs.Common.{◌≡◌, vec_len}
use Rattle.bolt_core.specs.Boards.{SameProgram}
use Rattle.bolt_rounds.specs.steps.Places.{HasTaken}
use Rattle.bolt_rounds.proofs.rounds.take_all.Given as goal

abbrev pub invariant-loop-worker : goal.invariant-loop-worker
invariant-loop-worker g l = record {
  same : SameProgram l.fn.board l.board;
  taken : HasTaken l.fn.board l.crew l.board;
  all : l.crew.workers ≡ l.fn.crew.workers;
  many : vec_len l.crew.places ≡ l.worker;
}
