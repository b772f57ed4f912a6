use Rattle.std.proofs.Common.{◌≡◌}
use Rattle.bolt_workers.specs.steps.Desks.{Sits}
use Rattle.bolt_workers.proofs.worker.run_worker.Given as goal

abbrev pub invariant-loop : goal.invariant-loop
invariant-loop g l = record {
  can : (goal.iterator-loop g).can_next l.iterator';
  ends : (goal.iterator-loop g).is_finite l.iterator';
  lock : l.desk.seat.lock ≡ l.fn.desk.seat.lock;
  program : l.desk.seat.view.program ≡ l.fn.desk.seat.view.program;
  sits : Sits l.desk;
}
