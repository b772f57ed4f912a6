use Rattle.std.proofs.Common.{◌≡◌, ◌*◌, ◌-◌, ℕ, length, false}
use Rattle.summary_table.specs.Tables.{StartsWith}
use Rattle.bolt_core.specs.Boards.{SameProgram, most_queries, most_summaries}
use Rattle.bolt_core.specs.Histories.{has_said}
use Rattle.bolt_rounds.specs.steps.Turning.{AreBack}
use Rattle.bolt_rounds.proofs.alone.alone.Given as goal

abbrev pub invariant-loop-board : goal.invariant-loop-board
invariant-loop-board l = record {
  same : SameProgram l.fn.board l.board;
  back : AreBack l.board.core;
  said : (i : ℕ) → has_said l.board.core.history i ≡ false;
  going : l.board.core.is_stopped ≡ false;
  room : l.known.room ≡ most_summaries l.board;
  front : StartsWith l.board.core.table l.known.summaries;
}

abbrev pub decreases-loop-board : goal.decreases-loop-board
decreases-loop-board l = 16 * most_queries l.board - length l.board.core.history
