use Rattle.std.proofs.Common.{◌≡◌}
use Rattle.board_lock.specs.Seats.{IsSeated}
use Rattle.board_lock.proofs.lock.BoardLock.hold.Given as goal

abbrev pub invariant-loop : goal.invariant-loop
invariant-loop g l = record {
  can : (goal.iterator-loop g).can_next l.iterator';
  ends : (goal.iterator-loop g).is_finite l.iterator';
  lock : l.seat-inside.token.table_id ≡ l.fn.seat.lock;
  view : l.seat-inside.token.me.0 ≡ l.fn.seat.view;
  seated : IsSeated l.seat-inside.token.me;
}
