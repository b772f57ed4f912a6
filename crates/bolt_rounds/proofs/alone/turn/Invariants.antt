use Rattle.bolt_rounds.proofs.alone.turn.Given as goal

abbrev pub ghost-do_job : goal.ghost-do_job
ghost-do_job a = a.board.now
