use Rattle.bolt_workers.proofs.Turns.{freed_sits, held_begins, held_of, stopped_now, stops_ended}
use Rattle.bolt_workers.proofs.worker.stop_once.Goals as goal

pub free-requires-clause-begins : goal.free-requires-clause-begins
free-requires-clause-begins g c = λ κs out.
    held_begins c.args.desk.now c.hold-board.new.desk c.hold-board.result c.requires.sits c.hold-board.ensures c.stop.new.self
    (stops_ended c.hold-board.result c.stop.new.self c.hold-board.new.desk.worker c.stop.ensures.stopped).0

pub returns-clause-sits : goal.returns-clause-sits
returns-clause-sits g c =
    let b = c.hold-board.result in
    let mid = c.hold-board.new.desk in
    freed_sits mid c.free.new.desk b c.stop.new.self (c.hold-board.ensures.later c.requires.sits.board c.requires.sits.has_seen).is_new
    c.stop.ensures.same (stops_ended b c.stop.new.self mid.worker c.stop.ensures.stopped).0 c.free.ensures
    (held_of c.args.desk.now mid b c.requires.sits c.hold-board.ensures)

pub returns-clause-ended : goal.returns-clause-ended
returns-clause-ended g c =
    stopped_now c.hold-board.new.desk c.free.new.desk c.hold-board.result c.stop.new.self c.hold-board.new.desk.worker
    c.stop.ensures.stopped
    c.free.ensures
