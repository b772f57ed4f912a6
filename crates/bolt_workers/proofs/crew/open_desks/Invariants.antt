use Rattle.std.proofs.Common.{◌≡◌, ◌≤◌, vec_len, vec_capacity}
use Rattle.std.specs.List.{All}
use Rattle.bolt_workers.specs.steps.Desks.{IsOpen}
use Rattle.bolt_workers.proofs.crew.open_desks.Given as goal

abbrev pub invariant-loop-worker : goal.invariant-loop-worker
invariant-loop-worker l = record {
  seat : l.seat ≡ l.fn.seat;
  room : l.workers ≤ vec_capacity l.desks;
  len : vec_len l.desks ≡ l.worker;
  desks : All (IsOpen l.fn.seat l.graphs.value.graphs l.room) l.desks.items;
}
