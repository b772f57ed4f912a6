use Rattle.std.proofs.Common.{arith}
use Rattle.bolt_rounds.proofs.Turning.{table_few}
use Rattle.bolt_rounds.proofs.moves.fetch.Goals as goal

pub bring-requires-clause-room : goal.bring-requires-clause-room
bring-requires-clause-room c = omega (arith, table_few c.args.board.now c.reached.ensures, c.requires.room)
