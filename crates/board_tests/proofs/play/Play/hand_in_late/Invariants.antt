use Rattle.board_tests.proofs.play.Play.hand_in_late.Given as goal

abbrev pub ghost-spare_in : goal.ghost-spare_in
ghost-spare_in a = a.board.now
