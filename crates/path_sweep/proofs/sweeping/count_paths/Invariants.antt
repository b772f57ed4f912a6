use Rattle.std.proofs.Common.{◌≡◌, ◌+◌, length}
use Rattle.path_sweep.specs.steps.Walks.{IsWalk}
use Rattle.path_sweep.proofs.sweeping.count_paths.Given as goal

abbrev pub invariant-loop : goal.invariant-loop
invariant-loop l = record {
  walk : IsWalk l.graphs.graphs l.main l.walk;
  counted : l.walk.counted ≡ l.counter + 1;
  found : length l.walk.found.items ≡ l.asserts;
}
