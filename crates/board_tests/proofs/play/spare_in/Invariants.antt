use Rattle.board_tests.proofs.play.spare_in.Given as goal

abbrev pub ghost-spare_of : goal.ghost-spare_of
ghost-spare_of g a = g.shown
