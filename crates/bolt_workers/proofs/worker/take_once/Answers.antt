use Rattle.std.proofs.Common.{subst}
use Rattle.bolt_core.specs.Boards.{SameProgram, Shown, Stops}
use Rattle.bolt_workers.proofs.Turns.{brought_of, freed_sits, gives_begins, held_begins, held_of, stopped_now, stops_ended, told_now}
use Rattle.bolt_workers.proofs.worker.take_once.Goals as goal

pub fetch-requires-clause-front : goal.fetch-requires-clause-front
fetch-requires-clause-front g c =
    (held_of c.args.desk.now c.hold-board.new.desk c.hold-board.result c.requires.sits c.hold-board.ensures).front

pub free-requires-clause-begins : goal.free-requires-clause-begins
free-requires-clause-begins g c = λ κs out.
    held_begins c.args.desk.now c.hold-board.new.desk c.hold-board.result c.requires.sits c.hold-board.ensures c.fetch.new.board
    (gives_begins c.hold-board.result c.fetch.new.board c.hold-board.new.desk.worker c.in-Ok.taken c.in-Ok.ensures.taken.0)

pub free-requires-in-Err-clause-begins : goal.free-requires-in-Err-clause-begins
free-requires-in-Err-clause-begins g c = λ κs out.
    let w = c.hold-board.new.desk.worker in
    held_begins c.args.desk.now c.hold-board.new.desk c.hold-board.result c.requires.sits c.hold-board.ensures c.stop.new.self
    (stops_ended c.hold-board.result c.stop.new.self w
    (subst (λ (b : Shown). Stops b w c.stop.new.self) c.in-Err.ensures.taken c.stop.ensures.stopped)).0

pub returns-in-Ok-clause-sits : goal.returns-in-Ok-clause-sits
returns-in-Ok-clause-sits g c =
    let b = c.hold-board.result in
    let mid = c.hold-board.new.desk in
    freed_sits (record mid { known = c.fetch.new.known }) c.free.new.desk b c.fetch.new.board
    (c.hold-board.ensures.later c.requires.sits.board c.requires.sits.has_seen).is_new c.fetch.ensures.same
    (gives_begins b c.fetch.new.board mid.worker c.in-Ok.taken c.in-Ok.ensures.taken.0) c.free.ensures
    (brought_of b mid.graphs.value.graphs mid.known c.fetch.new.known
    (held_of c.args.desk.now mid b c.requires.sits c.hold-board.ensures) c.fetch.ensures.room c.fetch.ensures.front)

pub returns-in-Ok-clause-told : goal.returns-in-Ok-clause-told
returns-in-Ok-clause-told g c =
    let b = c.hold-board.result in
    let mid = c.hold-board.new.desk in
    told_now (record mid { known = c.fetch.new.known }) c.free.new.desk b c.fetch.new.board mid.worker c.in-Ok.taken
    (c.hold-board.ensures.later c.requires.sits.board c.requires.sits.has_seen).is_new c.fetch.ensures.same c.in-Ok.ensures.taken.0
    c.free.ensures (held_of c.args.desk.now mid b c.requires.sits c.hold-board.ensures).graphs c.in-Ok.ensures.taken.1

pub returns-in-Err-clause-sits : goal.returns-in-Err-clause-sits
returns-in-Err-clause-sits g c =
    let b = c.hold-board.result in
    let mid = c.hold-board.new.desk in
    let same = subst (λ (x : Shown). SameProgram x c.stop.new.self) c.in-Err.ensures.taken c.stop.ensures.same in
    let stops = subst (λ (x : Shown). Stops x mid.worker c.stop.new.self) c.in-Err.ensures.taken c.stop.ensures.stopped in
    freed_sits (record mid { known = c.fetch.new.known }) c.free-in-Err.new.desk b c.stop.new.self
    (c.hold-board.ensures.later c.requires.sits.board c.requires.sits.has_seen).is_new same
    (stops_ended b c.stop.new.self mid.worker stops).0
    c.free-in-Err.ensures
    (brought_of b mid.graphs.value.graphs mid.known c.fetch.new.known
    (held_of c.args.desk.now mid b c.requires.sits c.hold-board.ensures) c.fetch.ensures.room c.fetch.ensures.front)

pub returns-in-Err-clause-ended : goal.returns-in-Err-clause-ended
returns-in-Err-clause-ended g c =
    stopped_now (record c.hold-board.new.desk { known = c.fetch.new.known }) c.free-in-Err.new.desk c.fetch.new.board c.stop.new.self
    c.hold-board.new.desk.worker c.stop.ensures.stopped c.free-in-Err.ensures
