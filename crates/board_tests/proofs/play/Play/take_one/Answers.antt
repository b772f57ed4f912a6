use Rattle.std.proofs.Common.{arith}
use Rattle.bolt_rounds.proofs.Turning.{table_few}
use Rattle.board_tests.proofs.Plays.{brought_play, may_take, play_taken}
use Rattle.board_tests.proofs.Staying.{more_taken}
use Rattle.board_tests.proofs.play.Play.take_one.Goals as goal

pub bring-requires-clause-room : goal.bring-requires-clause-room
bring-requires-clause-room c = omega (arith, table_few c.args.self.now.board c.reached.ensures, c.requires.room)

pub returns-clause-may : goal.returns-clause-may
returns-clause-may c =
    let s = c.args.self.now in
    let known = c.bring.new.known in
    may_take s.board c.take.new.self c.args.worker c.reached.ensures c.take.ensures.same s.asserts known s.jobs.items
    (brought_play s.board s.asserts s.known s.jobs.items c.requires known c.bring.ensures.room c.bring.ensures.front)
    c.in_ok-bring.ensures.same c.take.result c.take.ensures.taken

pub returns-clause-stands : goal.returns-clause-stands
returns-clause-stands c =
    let s = c.args.self.now in
    let known = c.bring.new.known in
    play_taken s.board c.take.new.self c.args.worker c.reached.ensures c.take.ensures.same s.asserts known s.jobs.items
    (brought_play s.board s.asserts s.known s.jobs.items c.requires known c.bring.ensures.room c.bring.ensures.front)
    c.take.result c.take.ensures.taken

pub returns-clause-more : goal.returns-clause-more
returns-clause-more c =
    more_taken c.args.self.now.board c.take.new.self c.args.worker c.take.result c.take.ensures.taken
