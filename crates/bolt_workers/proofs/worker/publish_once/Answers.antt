use Rattle.bolt_rounds.proofs.Shown.{may_publish}
use Rattle.bolt_workers.proofs.Turns.{back_then, freed_later, freed_sits, held_begins, held_of, publishes_begins, shows_now}
use Rattle.bolt_workers.proofs.worker.publish_once.Goals as goal

pub publish-requires : goal.publish-requires
publish-requires g c =
    let b = c.hold-board.result in
    let j = c.args.gone.now.job in
    let s = c.args.summary.value in
    let m = may_publish b j s (shows_now c.args.desk.now c.hold-board.new.desk b j s c.hold-board.ensures c.requires.may) in
    record { here = m.0; holds = m.1; fits = m.2 }

pub free-requires-clause-begins : goal.free-requires-clause-begins
free-requires-clause-begins g c = λ κs out.
    held_begins c.args.desk.now c.hold-board.new.desk c.hold-board.result c.requires.sits c.hold-board.ensures c.publish.new.self
    (publishes_begins c.hold-board.result c.publish.new.self c.hold-board.new.desk.worker c.args.gone.now.job.id c.args.summary.value
    c.publish.ensures.published)

pub returns-clause-sits : goal.returns-clause-sits
returns-clause-sits g c =
    let b = c.hold-board.result in
    let mid = c.hold-board.new.desk in
    freed_sits mid c.free.new.desk b c.publish.new.self (c.hold-board.ensures.later c.requires.sits.board c.requires.sits.has_seen).is_new
    c.publish.ensures.same
    (publishes_begins b c.publish.new.self mid.worker c.args.gone.now.job.id c.args.summary.value c.publish.ensures.published)
    c.free.ensures (held_of c.args.desk.now mid b c.requires.sits c.hold-board.ensures)

pub returns-clause-back : goal.returns-clause-back
returns-clause-back g c j =
    let b = c.hold-board.result in
    let mid = c.hold-board.new.desk in
    back_then c.args.desk.now mid c.free.new.desk b c.publish.new.self j c.hold-board.ensures
    (freed_later mid c.free.new.desk b c.publish.new.self (c.hold-board.ensures.later c.requires.sits.board c.requires.sits.has_seen).is_new
    c.publish.ensures.same
    (publishes_begins b c.publish.new.self mid.worker c.args.gone.now.job.id c.args.summary.value c.publish.ensures.published)
    c.free.ensures)
    c.free.ensures
