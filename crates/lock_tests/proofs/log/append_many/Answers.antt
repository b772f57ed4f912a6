use Rattle.lock_tests.specs.Calls.{own_events}
use Rattle.std.proofs.Common.{◌∙◌}
use Rattle.lock_tests.proofs.Calls.{own_next}
use Rattle.lock_tests.proofs.log.append_many.Goals as goal

pub loop-i-preserved : goal.loop-i-preserved
loop-i-preserved g c =
    let before = c.loop-i.seat.view in
    let after = c.append_once.new.seat.view in
    record {
      lock = c.append_once.ensures.lock ∙ c.loop-i.invariant.lock;
      rests = c.append_once.ensures.rests;
      own = own_next (own_events c.args.seat.now.view) (own_events before) (own_events after) c.args.first c.loop-i.i c.append_once.result
          c.if-not-append_once.false c.loop-i.invariant.own c.append_once.ensures.own;
    }
