use Rattle.bolt_core.proofs.board.Board.close.Given as goal

abbrev pub ghost-settle : goal.ghost-settle
ghost-settle a = a.slots.now
