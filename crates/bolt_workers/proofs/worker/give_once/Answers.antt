use Rattle.bolt_workers.proofs.Turns.{freed_later, freed_sits, gone_back, gone_begins, held_begins, held_of, may_now, moved_back, moved_begins, shows_then, taken_within}
use Rattle.bolt_workers.proofs.worker.give_once.Goals as goal

pub hand_in-requires : goal.hand_in-requires
hand_in-requires g c =
    may_now c.args.desk.now c.hold-board.new.desk c.hold-board.result c.args.worked c.hold-board.ensures c.requires.may

pub free-requires-clause-begins : goal.free-requires-clause-begins
free-requires-clause-begins g c = λ κs out.
    held_begins c.args.desk.now c.hold-board.new.desk c.hold-board.result c.requires.sits c.hold-board.ensures c.hand_in.new.board
    (moved_begins c.hold-board.result c.hand_in.new.board c.hold-board.new.desk.worker c.args.worked.job c.args.worked.next
    c.in-Ok.ensures.moved)

pub returns-in-Ok-clause-sits : goal.returns-in-Ok-clause-sits
returns-in-Ok-clause-sits g c =
    let b = c.hold-board.result in
    let mid = c.hold-board.new.desk in
    freed_sits mid c.free.new.desk b c.hand_in.new.board (c.hold-board.ensures.later c.requires.sits.board c.requires.sits.has_seen).is_new
    c.hand_in.ensures.same (moved_begins b c.hand_in.new.board mid.worker c.args.worked.job c.args.worked.next c.in-Ok.ensures.moved)
    c.free.ensures (held_of c.args.desk.now mid b c.requires.sits c.hold-board.ensures)

pub returns-in-Ok-clause-shows : goal.returns-in-Ok-clause-shows
returns-in-Ok-clause-shows g c s =
    let b = c.hold-board.result in
    let mid = c.hold-board.new.desk in
    shows_then c.args.desk.now mid c.free.new.desk b c.hand_in.new.board c.args.worked.job s c.hold-board.ensures
    (freed_later mid c.free.new.desk b c.hand_in.new.board (c.hold-board.ensures.later c.requires.sits.board
    c.requires.sits.has_seen).is_new
    c.hand_in.ensures.same (moved_begins b c.hand_in.new.board mid.worker c.args.worked.job c.args.worked.next c.in-Ok.ensures.moved)
    c.free.ensures)
    c.free.ensures

pub returns-in-Err-clause-sits : goal.returns-in-Err-clause-sits
returns-in-Err-clause-sits g c =
    let b = c.hold-board.result in
    let mid = c.hold-board.new.desk in
    freed_sits mid c.free-in-Err.new.desk b c.hand_in.new.board
    (c.hold-board.ensures.later c.requires.sits.board c.requires.sits.has_seen).is_new c.hand_in.ensures.same
    (gone_begins b c.hand_in.new.board c.args.worked.job c.in-Err.gone c.in-Err.ensures.moved) c.free-in-Err.ensures
    (held_of c.args.desk.now mid b c.requires.sits c.hold-board.ensures)

pub returns-in-Err-clause-shows : goal.returns-in-Err-clause-shows
returns-in-Err-clause-shows g c s =
    let b = c.hold-board.result in
    let mid = c.hold-board.new.desk in
    shows_then c.args.desk.now mid c.free-in-Err.new.desk b c.hand_in.new.board c.args.worked.job s c.hold-board.ensures
    (freed_later mid c.free-in-Err.new.desk b c.hand_in.new.board
    (c.hold-board.ensures.later c.requires.sits.board c.requires.sits.has_seen).is_new c.hand_in.ensures.same
    (gone_begins b c.hand_in.new.board c.args.worked.job c.in-Err.gone c.in-Err.ensures.moved) c.free-in-Err.ensures)
    c.free-in-Err.ensures

pub returns-in-Ok-clause-back : goal.returns-in-Ok-clause-back
returns-in-Ok-clause-back g c =
    let b = c.hold-board.result in
    let mid = c.hold-board.new.desk in
    let j = c.args.worked.job in
    let moved = c.in-Ok.ensures.moved in
    moved_back mid c.free.new.desk b c.hand_in.new.board mid.worker j
    (freed_later mid c.free.new.desk b c.hand_in.new.board (c.hold-board.ensures.later c.requires.sits.board
    c.requires.sits.has_seen).is_new
    c.hand_in.ensures.same (moved_begins b c.hand_in.new.board mid.worker j c.args.worked.next moved) c.free.ensures)
    c.free.ensures c.args.worked.next moved
    (taken_within b j c.args.worked.next (may_now c.args.desk.now mid b c.args.worked c.hold-board.ensures c.requires.may))

pub returns-in-Err-clause-back : goal.returns-in-Err-clause-back
returns-in-Err-clause-back g c =
    let b = c.hold-board.result in
    let mid = c.hold-board.new.desk in
    let j = c.args.worked.job in
    gone_back mid c.free-in-Err.new.desk b c.hand_in.new.board mid.worker j
    (freed_later mid c.free-in-Err.new.desk b c.hand_in.new.board
    (c.hold-board.ensures.later c.requires.sits.board c.requires.sits.has_seen).is_new c.hand_in.ensures.same
    (gone_begins b c.hand_in.new.board j c.in-Err.gone c.in-Err.ensures.moved) c.free-in-Err.ensures)
    c.free-in-Err.ensures c.in-Err.gone c.in-Err.ensures.moved
