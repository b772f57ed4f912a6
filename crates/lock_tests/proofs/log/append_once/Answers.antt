use Rattle.std.proofs.Common.{[], ◌∷◌, cond}
use Rattle.lock_tests.proofs.Calls.{own_added}
use Rattle.lock_tests.proofs.log.append_once.Goals as goal

pub returns-clause-own : goal.returns-clause-own
returns-clause-own g c =
    let v = c.args.seat.now.view in
    let more = cond c.append-added.result (c.args.number ∷ []) [] in
    rw (c.free.ensures.rests, c.hold-log.ensures.holds, c.append-added.ensures.numbers)
    (own_added v.seen c.hold-log.result.numbers.items more v.places c.hold-log.ensures.own c.hold-log.ensures.begins)
