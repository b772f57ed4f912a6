use Rattle.std.proofs.Common.{◌≡◌, ◌++◌, map, Some, false}
use Rattle.board_lock.specs.Views.{places_from}
use Rattle.lock_tests.specs.Calls.{own_events}
use Rattle.lock_tests.proofs.log.append_many.Given as goal

abbrev pub invariant-loop-i : goal.invariant-loop-i
invariant-loop-i g l = record {
  lock : l.seat.lock ≡ l.fn.seat.lock;
  rests : l.seat.view.turn ≡ false;
  own : own_events l.seat.view ≡ own_events l.fn.seat.view ++ map (λ n. Some n) (places_from l.fn.first l.i);
}
