use Rattle.board_tests.specs.Plays.{IsPlay}
use Rattle.board_tests.proofs.kept.stopped_after.Given as goal

abbrev pub invariant-loop-number : goal.invariant-loop-number
invariant-loop-number l = IsPlay l.play.board l.play.asserts l.play.known l.play.jobs.items
