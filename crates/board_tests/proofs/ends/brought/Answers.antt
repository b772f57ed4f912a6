use Rattle.board_tests.proofs.Plays.{starts_none}
use Rattle.board_tests.proofs.ends.brought.Goals as goal

pub bring-requires-clause-front : goal.bring-requires-clause-front
bring-requires-clause-front c = starts_none c.args.board.now.core.table c.in_ok-known.known.summaries c.in_ok-known.ensures.none
