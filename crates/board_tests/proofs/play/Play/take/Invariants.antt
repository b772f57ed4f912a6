use Rattle.board_tests.proofs.play.Play.take.Given as goal

abbrev pub ghost-worked_of : goal.ghost-worked_of
ghost-worked_of a = a.board.now
