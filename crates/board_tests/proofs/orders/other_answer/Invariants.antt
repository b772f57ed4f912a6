use Rattle.board_tests.specs.Plays.{IsPlay}
use Rattle.board_tests.proofs.orders.other_answer.Given as goal

abbrev pub invariant-loop-place : goal.invariant-loop-place
invariant-loop-place l = IsPlay l.play.board l.play.asserts l.play.known l.play.jobs.items
