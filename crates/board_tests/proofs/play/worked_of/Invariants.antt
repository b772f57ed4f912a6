use Rattle.board_tests.proofs.play.worked_of.Given as goal

abbrev pub ghost-work_on : goal.ghost-work_on
ghost-work_on g a = g.shown
